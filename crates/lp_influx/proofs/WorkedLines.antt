-- What the parser of InfluxDB 1.x reads of some lines, as statements on the definition. checks/influx.sh writes this file.
use Rattle.std.specs.Prelude.{⊤}
use Rattle.std.specs.{Float.float_is_finite, Float.Numeral.scan_numeral, Float.Parse.read_float}
use Rattle.std.proofs.Common.{◌≡◌, [], ◌∷◌, true, None, Some, refl, codes, negsuc, pos}
use lib.Ieee.{round}
use Rattle.lp_format.specs.format.{boolean, boolean_at, float, float_at, integer, integer_at, string, unsigned, unsigned_at, without_escapes}
use Rattle.lp_influx.specs.format.InfluxFields.{after_fields, influx_value, literal, value_text}
use Rattle.lp_influx.specs.format.InfluxLines.{influx_line}
use Rattle.lp_influx.specs.format.InfluxNames.{until}

-- The definitions that have to be unfolded to compute the answers for these lines.
unfoldable on_lines : ⊤
unfolding influx_line until after_fields influx_value literal value_text integer_at float_at boolean_at unsigned_at without_escapes read_float
    scan_numeral float_is_finite round
on_lines = tt

-- m f=1
line_1 : influx_line (codes "m f=1") ≡ Some (record {
  measurement = codes "m";
  tags = [];
  fields = record { key = codes "f"; value = float (codes "1") } ∷ [];
  timestamp = None;
})
unfolding on_lines
line_1 = refl

-- m,t=x f=1i 5000000
line_2 : influx_line (codes "m,t=x f=1i 5000000") ≡ Some (record {
  measurement = codes "m";
  tags = record { key = codes "t"; value = codes "x" } ∷ [];
  fields = record { key = codes "f"; value = integer (pos 1) } ∷ [];
  timestamp = Some (pos 5000000);
})
unfolding on_lines
line_2 = refl

-- m,a=1,b=2 f=1,g=t 1590488773254420000
line_3 : influx_line (codes "m,a=1,b=2 f=1,g=t 1590488773254420000") ≡ Some (record {
  measurement = codes "m";
  tags = record { key = codes "a"; value = codes "1" } ∷ record { key = codes "b"; value = codes "2" } ∷ [];
  fields = record { key = codes "f"; value = float (codes "1") } ∷ record { key = codes "g"; value = boolean true } ∷ [];
  timestamp = Some (pos 1590488773254420000);
})
unfolding on_lines
line_3 = refl

-- m\ n f=1
line_4 : influx_line (codes "m\\ n f=1") ≡ Some (record {
  measurement = codes "m n";
  tags = [];
  fields = record { key = codes "f"; value = float (codes "1") } ∷ [];
  timestamp = None;
})
unfolding on_lines
line_4 = refl

-- m\,n f=1
line_5 : influx_line (codes "m\\,n f=1") ≡ Some (record {
  measurement = codes "m,n";
  tags = [];
  fields = record { key = codes "f"; value = float (codes "1") } ∷ [];
  timestamp = None;
})
unfolding on_lines
line_5 = refl

-- m\=n f=1
line_6 : influx_line (codes "m\\=n f=1") ≡ Some (record {
  measurement = codes "m=n";
  tags = [];
  fields = record { key = codes "f"; value = float (codes "1") } ∷ [];
  timestamp = None;
})
unfolding on_lines
line_6 = refl

-- m\"n f=1
line_7 : influx_line (codes "m\\\"n f=1") ≡ Some (record {
  measurement = codes "m\"n";
  tags = [];
  fields = record { key = codes "f"; value = float (codes "1") } ∷ [];
  timestamp = None;
})
unfolding on_lines
line_7 = refl

-- m\\n f=1
line_8 : influx_line (codes "m\\\\n f=1") ≡ Some (record {
  measurement = codes "m\\\\n";
  tags = [];
  fields = record { key = codes "f"; value = float (codes "1") } ∷ [];
  timestamp = None;
})
unfolding on_lines
line_8 = refl

-- m\n f=1
line_9 : influx_line (codes "m\\n f=1") ≡ Some (record {
  measurement = codes "m\\n";
  tags = [];
  fields = record { key = codes "f"; value = float (codes "1") } ∷ [];
  timestamp = None;
})
unfolding on_lines
line_9 = refl

-- m=n f=1
line_10 : influx_line (codes "m=n f=1") ≡ Some (record {
  measurement = codes "m=n";
  tags = [];
  fields = record { key = codes "f"; value = float (codes "1") } ∷ [];
  timestamp = None;
})
unfolding on_lines
line_10 = refl

-- m"n f=1
line_11 : influx_line (codes "m\"n f=1") ≡ Some (record {
  measurement = codes "m\"n";
  tags = [];
  fields = record { key = codes "f"; value = float (codes "1") } ∷ [];
  timestamp = None;
})
unfolding on_lines
line_11 = refl

-- m\ f=1
line_12 : influx_line (codes "m\\ f=1") ≡ None
unfolding on_lines
line_12 = refl

-- ,t=x f=1
line_13 : influx_line (codes ",t=x f=1") ≡ None
unfolding on_lines
line_13 = refl

-- m,t=a\ b f=1
line_14 : influx_line (codes "m,t=a\\ b f=1") ≡ Some (record {
  measurement = codes "m";
  tags = record { key = codes "t"; value = codes "a b" } ∷ [];
  fields = record { key = codes "f"; value = float (codes "1") } ∷ [];
  timestamp = None;
})
unfolding on_lines
line_14 = refl

-- m,t=a\,b f=1
line_15 : influx_line (codes "m,t=a\\,b f=1") ≡ Some (record {
  measurement = codes "m";
  tags = record { key = codes "t"; value = codes "a,b" } ∷ [];
  fields = record { key = codes "f"; value = float (codes "1") } ∷ [];
  timestamp = None;
})
unfolding on_lines
line_15 = refl

-- m,t\=u=a f=1
line_16 : influx_line (codes "m,t\\=u=a f=1") ≡ Some (record {
  measurement = codes "m";
  tags = record { key = codes "t=u"; value = codes "a" } ∷ [];
  fields = record { key = codes "f"; value = float (codes "1") } ∷ [];
  timestamp = None;
})
unfolding on_lines
line_16 = refl

-- m,t=a\\b f=1
line_17 : influx_line (codes "m,t=a\\\\b f=1") ≡ Some (record {
  measurement = codes "m";
  tags = record { key = codes "t"; value = codes "a\\\\b" } ∷ [];
  fields = record { key = codes "f"; value = float (codes "1") } ∷ [];
  timestamp = None;
})
unfolding on_lines
line_17 = refl

-- m,t=a\"b f=1
line_18 : influx_line (codes "m,t=a\\\"b f=1") ≡ Some (record {
  measurement = codes "m";
  tags = record { key = codes "t"; value = codes "a\\\"b" } ∷ [];
  fields = record { key = codes "f"; value = float (codes "1") } ∷ [];
  timestamp = None;
})
unfolding on_lines
line_18 = refl

-- m,t==a f=1
line_19 : influx_line (codes "m,t==a f=1") ≡ Some (record {
  measurement = codes "m";
  tags = record { key = codes "t"; value = codes "=a" } ∷ [];
  fields = record { key = codes "f"; value = float (codes "1") } ∷ [];
  timestamp = None;
})
unfolding on_lines
line_19 = refl

-- m,t=a=b f=1
line_20 : influx_line (codes "m,t=a=b f=1") ≡ None
unfolding on_lines
line_20 = refl

-- m,t,u=a f=1
line_21 : influx_line (codes "m,t,u=a f=1") ≡ None
unfolding on_lines
line_21 = refl

-- m,t= f=1
line_22 : influx_line (codes "m,t= f=1") ≡ None
unfolding on_lines
line_22 = refl

-- m,=a f=1
line_23 : influx_line (codes "m,=a f=1") ≡ None
unfolding on_lines
line_23 = refl

-- m,t=a, f=1
line_24 : influx_line (codes "m,t=a, f=1") ≡ None
unfolding on_lines
line_24 = refl

-- m,t=1,t=2 f=1
line_25 : influx_line (codes "m,t=1,t=2 f=1") ≡ None
unfolding on_lines
line_25 = refl

-- m,t=a
line_26 : influx_line (codes "m,t=a") ≡ None
unfolding on_lines
line_26 = refl

-- m
line_27 : influx_line (codes "m") ≡ None
unfolding on_lines
line_27 = refl

-- m a\ b=1
line_28 : influx_line (codes "m a\\ b=1") ≡ Some (record {
  measurement = codes "m";
  tags = [];
  fields = record { key = codes "a b"; value = float (codes "1") } ∷ [];
  timestamp = None;
})
unfolding on_lines
line_28 = refl

-- m a\=b=1
line_29 : influx_line (codes "m a\\=b=1") ≡ Some (record {
  measurement = codes "m";
  tags = [];
  fields = record { key = codes "a=b"; value = float (codes "1") } ∷ [];
  timestamp = None;
})
unfolding on_lines
line_29 = refl

-- m a\,b=1
line_30 : influx_line (codes "m a\\,b=1") ≡ Some (record {
  measurement = codes "m";
  tags = [];
  fields = record { key = codes "a,b"; value = float (codes "1") } ∷ [];
  timestamp = None;
})
unfolding on_lines
line_30 = refl

-- m a\"b=1
line_31 : influx_line (codes "m a\\\"b=1") ≡ Some (record {
  measurement = codes "m";
  tags = [];
  fields = record { key = codes "a\"b"; value = float (codes "1") } ∷ [];
  timestamp = None;
})
unfolding on_lines
line_31 = refl

-- m a\b=1
line_32 : influx_line (codes "m a\\b=1") ≡ Some (record {
  measurement = codes "m";
  tags = [];
  fields = record { key = codes "a\\b"; value = float (codes "1") } ∷ [];
  timestamp = None;
})
unfolding on_lines
line_32 = refl

-- m a\\b=1
line_33 : influx_line (codes "m a\\\\b=1") ≡ Some (record {
  measurement = codes "m";
  tags = [];
  fields = record { key = codes "a\\\\b"; value = float (codes "1") } ∷ [];
  timestamp = None;
})
unfolding on_lines
line_33 = refl

-- m a\\=1
line_34 : influx_line (codes "m a\\\\=1") ≡ None
unfolding on_lines
line_34 = refl

-- m a\\=1,b=t
line_35 : influx_line (codes "m a\\\\=1,b=t") ≡ Some (record {
  measurement = codes "m";
  tags = [];
  fields = record { key = codes "a\\=1,b"; value = boolean true } ∷ [];
  timestamp = None;
})
unfolding on_lines
line_35 = refl

-- m a,b=1
line_36 : influx_line (codes "m a,b=1") ≡ None
unfolding on_lines
line_36 = refl

-- m a"=1
line_37 : influx_line (codes "m a\"=1") ≡ Some (record {
  measurement = codes "m";
  tags = [];
  fields = record { key = codes "a\""; value = float (codes "1") } ∷ [];
  timestamp = None;
})
unfolding on_lines
line_37 = refl

-- m a"=1,b=2
line_38 : influx_line (codes "m a\"=1,b=2") ≡ Some (record {
  measurement = codes "m";
  tags = [];
  fields = record { key = codes "a\""; value = float (codes "1") } ∷ record { key = codes "b"; value = float (codes "2") } ∷ [];
  timestamp = None;
})
unfolding on_lines
line_38 = refl

-- m =1
line_39 : influx_line (codes "m =1") ≡ None
unfolding on_lines
line_39 = refl

-- m a=1,=2
line_40 : influx_line (codes "m a=1,=2") ≡ None
unfolding on_lines
line_40 = refl

-- m a=1,
line_41 : influx_line (codes "m a=1,") ≡ None
unfolding on_lines
line_41 = refl

-- m a=1,b
line_42 : influx_line (codes "m a=1,b") ≡ None
unfolding on_lines
line_42 = refl

-- m a=1 b=2
line_43 : influx_line (codes "m a=1 b=2") ≡ None
unfolding on_lines
line_43 = refl

-- m a=
line_44 : influx_line (codes "m a=") ≡ None
unfolding on_lines
line_44 = refl

-- m a=,b=1
line_45 : influx_line (codes "m a=,b=1") ≡ None
unfolding on_lines
line_45 = refl

-- m a==1
line_46 : influx_line (codes "m a==1") ≡ None
unfolding on_lines
line_46 = refl

-- m f=1.
line_47 : influx_line (codes "m f=1.") ≡ Some (record {
  measurement = codes "m";
  tags = [];
  fields = record { key = codes "f"; value = float (codes "1.") } ∷ [];
  timestamp = None;
})
unfolding on_lines
line_47 = refl

-- m f=.5
line_48 : influx_line (codes "m f=.5") ≡ Some (record {
  measurement = codes "m";
  tags = [];
  fields = record { key = codes "f"; value = float (codes ".5") } ∷ [];
  timestamp = None;
})
unfolding on_lines
line_48 = refl

-- m f=-.5
line_49 : influx_line (codes "m f=-.5") ≡ Some (record {
  measurement = codes "m";
  tags = [];
  fields = record { key = codes "f"; value = float (codes "-.5") } ∷ [];
  timestamp = None;
})
unfolding on_lines
line_49 = refl

-- m f=.
line_50 : influx_line (codes "m f=.") ≡ None
unfolding on_lines
line_50 = refl

-- m f=-
line_51 : influx_line (codes "m f=-") ≡ None
unfolding on_lines
line_51 = refl

-- m f=1e3
line_52 : influx_line (codes "m f=1e3") ≡ Some (record {
  measurement = codes "m";
  tags = [];
  fields = record { key = codes "f"; value = float (codes "1e3") } ∷ [];
  timestamp = None;
})
unfolding on_lines
line_52 = refl

-- m f=1.e3
line_53 : influx_line (codes "m f=1.e3") ≡ Some (record {
  measurement = codes "m";
  tags = [];
  fields = record { key = codes "f"; value = float (codes "1.e3") } ∷ [];
  timestamp = None;
})
unfolding on_lines
line_53 = refl

-- m f=1e
line_54 : influx_line (codes "m f=1e") ≡ None
unfolding on_lines
line_54 = refl

-- m f=1e309
line_55 : influx_line (codes "m f=1e309") ≡ None
unfolding on_lines
line_55 = refl

-- m f=+1
line_56 : influx_line (codes "m f=+1") ≡ None
unfolding on_lines
line_56 = refl

-- m f=0x1
line_57 : influx_line (codes "m f=0x1") ≡ None
unfolding on_lines
line_57 = refl

-- m f=NaN
line_58 : influx_line (codes "m f=NaN") ≡ None
unfolding on_lines
line_58 = refl

-- m f=007i
line_59 : influx_line (codes "m f=007i") ≡ Some (record {
  measurement = codes "m";
  tags = [];
  fields = record { key = codes "f"; value = integer (pos 7) } ∷ [];
  timestamp = None;
})
unfolding on_lines
line_59 = refl

-- m f=-0i
line_60 : influx_line (codes "m f=-0i") ≡ Some (record {
  measurement = codes "m";
  tags = [];
  fields = record { key = codes "f"; value = integer (pos 0) } ∷ [];
  timestamp = None;
})
unfolding on_lines
line_60 = refl

-- m f=1.5i
line_61 : influx_line (codes "m f=1.5i") ≡ None
unfolding on_lines
line_61 = refl

-- m,t=x f=1u 5000000
line_62 : influx_line (codes "m,t=x f=1u 5000000") ≡ None
unfolding on_lines
line_62 = refl

-- m f=9223372036854775807i
line_63 : influx_line (codes "m f=9223372036854775807i") ≡ Some (record {
  measurement = codes "m";
  tags = [];
  fields = record { key = codes "f"; value = integer (pos 9223372036854775807) } ∷ [];
  timestamp = None;
})
unfolding on_lines
line_63 = refl

-- m f=9223372036854775808i
line_64 : influx_line (codes "m f=9223372036854775808i") ≡ None
unfolding on_lines
line_64 = refl

-- m f=t
line_65 : influx_line (codes "m f=t") ≡ Some (record {
  measurement = codes "m";
  tags = [];
  fields = record { key = codes "f"; value = boolean true } ∷ [];
  timestamp = None;
})
unfolding on_lines
line_65 = refl

-- m f=TRUE
line_66 : influx_line (codes "m f=TRUE") ≡ Some (record {
  measurement = codes "m";
  tags = [];
  fields = record { key = codes "f"; value = boolean true } ∷ [];
  timestamp = None;
})
unfolding on_lines
line_66 = refl

-- m f=tru
line_67 : influx_line (codes "m f=tru") ≡ None
unfolding on_lines
line_67 = refl

-- m f=tRUE
line_68 : influx_line (codes "m f=tRUE") ≡ None
unfolding on_lines
line_68 = refl

-- m f=x
line_69 : influx_line (codes "m f=x") ≡ None
unfolding on_lines
line_69 = refl

-- m f=""
line_70 : influx_line (codes "m f=\"\"") ≡ Some (record {
  measurement = codes "m";
  tags = [];
  fields = record { key = codes "f"; value = string (codes "") } ∷ [];
  timestamp = None;
})
unfolding on_lines
line_70 = refl

-- m f="a b,c=d"
line_71 : influx_line (codes "m f=\"a b,c=d\"") ≡ Some (record {
  measurement = codes "m";
  tags = [];
  fields = record { key = codes "f"; value = string (codes "a b,c=d") } ∷ [];
  timestamp = None;
})
unfolding on_lines
line_71 = refl

-- m f="a\"b"
line_72 : influx_line (codes "m f=\"a\\\"b\"") ≡ Some (record {
  measurement = codes "m";
  tags = [];
  fields = record { key = codes "f"; value = string (codes "a\"b") } ∷ [];
  timestamp = None;
})
unfolding on_lines
line_72 = refl

-- m f="a\\b"
line_73 : influx_line (codes "m f=\"a\\\\b\"") ≡ Some (record {
  measurement = codes "m";
  tags = [];
  fields = record { key = codes "f"; value = string (codes "a\\b") } ∷ [];
  timestamp = None;
})
unfolding on_lines
line_73 = refl

-- m f="a\b"
line_74 : influx_line (codes "m f=\"a\\b\"") ≡ Some (record {
  measurement = codes "m";
  tags = [];
  fields = record { key = codes "f"; value = string (codes "a\\b") } ∷ [];
  timestamp = None;
})
unfolding on_lines
line_74 = refl

-- m f="a\\"
line_75 : influx_line (codes "m f=\"a\\\\\"") ≡ Some (record {
  measurement = codes "m";
  tags = [];
  fields = record { key = codes "f"; value = string (codes "a\\") } ∷ [];
  timestamp = None;
})
unfolding on_lines
line_75 = refl

-- m f="a
line_76 : influx_line (codes "m f=\"a") ≡ None
unfolding on_lines
line_76 = refl

-- m f="a"b
line_77 : influx_line (codes "m f=\"a\"b") ≡ Some (record {
  measurement = codes "m";
  tags = [];
  fields = record { key = codes "f"; value = string (codes "a\"") } ∷ [];
  timestamp = None;
})
unfolding on_lines
line_77 = refl

-- m f="a",g=1
line_78 : influx_line (codes "m f=\"a\",g=1") ≡ Some (record {
  measurement = codes "m";
  tags = [];
  fields = record { key = codes "f"; value = string (codes "a") } ∷ record { key = codes "g"; value = float (codes "1") } ∷ [];
  timestamp = None;
})
unfolding on_lines
line_78 = refl

-- m a="x"=1,
line_79 : influx_line (codes "m a=\"x\"=1,") ≡ Some (record {
  measurement = codes "m";
  tags = [];
  fields = record { key = codes "a"; value = string (codes "x\"=") } ∷ [];
  timestamp = None;
})
unfolding on_lines
line_79 = refl

-- m a,b="x"=1
line_80 : influx_line (codes "m a,b=\"x\"=1") ≡ Some (record {
  measurement = codes "m";
  tags = [];
  fields = record { key = codes "a,b"; value = string (codes "x\"=") } ∷ [];
  timestamp = None;
})
unfolding on_lines
line_80 = refl

-- m a\\="=1,b=2"
line_81 : influx_line (codes "m a\\\\=\"=1,b=2\"") ≡ None
unfolding on_lines
line_81 = refl

-- m a\\="=1u,b="c""
line_82 : influx_line (codes "m a\\\\=\"=1u,b=\"c\"\"") ≡ Some (record {
  measurement = codes "m";
  tags = [];
  fields = record { key = codes "a\\=\""; value = unsigned 1 } ∷ record { key = codes "b"; value = string (codes "c\"") } ∷ [];
  timestamp = None;
})
unfolding on_lines
line_82 = refl

-- m f=1 5
line_83 : influx_line (codes "m f=1 5") ≡ Some (record {
  measurement = codes "m";
  tags = [];
  fields = record { key = codes "f"; value = float (codes "1") } ∷ [];
  timestamp = Some (pos 5);
})
unfolding on_lines
line_83 = refl

-- m f=1 -5
line_84 : influx_line (codes "m f=1 -5") ≡ Some (record {
  measurement = codes "m";
  tags = [];
  fields = record { key = codes "f"; value = float (codes "1") } ∷ [];
  timestamp = Some (negsuc 4);
})
unfolding on_lines
line_84 = refl

-- m f=1 007
line_85 : influx_line (codes "m f=1 007") ≡ Some (record {
  measurement = codes "m";
  tags = [];
  fields = record { key = codes "f"; value = float (codes "1") } ∷ [];
  timestamp = Some (pos 7);
})
unfolding on_lines
line_85 = refl

-- m f=1  5
line_86 : influx_line (codes "m f=1  5 ") ≡ Some (record {
  measurement = codes "m";
  tags = [];
  fields = record { key = codes "f"; value = float (codes "1") } ∷ [];
  timestamp = Some (pos 5);
})
unfolding on_lines
line_86 = refl

-- m f=1
line_87 : influx_line (codes "m f=1 ") ≡ Some (record {
  measurement = codes "m";
  tags = [];
  fields = record { key = codes "f"; value = float (codes "1") } ∷ [];
  timestamp = None;
})
unfolding on_lines
line_87 = refl

-- m f=1 5i
line_88 : influx_line (codes "m f=1 5i") ≡ None
unfolding on_lines
line_88 = refl

-- m f=1 -
line_89 : influx_line (codes "m f=1 -") ≡ None
unfolding on_lines
line_89 = refl

-- m f=1 5 6
line_90 : influx_line (codes "m f=1 5 6") ≡ None
unfolding on_lines
line_90 = refl

-- m f=1 9223372036854775806
line_91 : influx_line (codes "m f=1 9223372036854775806") ≡ Some (record {
  measurement = codes "m";
  tags = [];
  fields = record { key = codes "f"; value = float (codes "1") } ∷ [];
  timestamp = Some (pos 9223372036854775806);
})
unfolding on_lines
line_91 = refl

-- m f=1 9223372036854775807
line_92 : influx_line (codes "m f=1 9223372036854775807") ≡ None
unfolding on_lines
line_92 = refl

-- m f=1 -9223372036854775806
line_93 : influx_line (codes "m f=1 -9223372036854775806") ≡ Some (record {
  measurement = codes "m";
  tags = [];
  fields = record { key = codes "f"; value = float (codes "1") } ∷ [];
  timestamp = Some (negsuc 9223372036854775805);
})
unfolding on_lines
line_93 = refl

-- m f=1 -9223372036854775807
line_94 : influx_line (codes "m f=1 -9223372036854775807") ≡ None
unfolding on_lines
line_94 = refl

--   m f=1
line_95 : influx_line (codes "  m f=1") ≡ Some (record {
  measurement = codes "m";
  tags = [];
  fields = record { key = codes "f"; value = float (codes "1") } ∷ [];
  timestamp = None;
})
unfolding on_lines
line_95 = refl

-- m  f=1
line_96 : influx_line (codes "m  f=1") ≡ Some (record {
  measurement = codes "m";
  tags = [];
  fields = record { key = codes "f"; value = float (codes "1") } ∷ [];
  timestamp = None;
})
unfolding on_lines
line_96 = refl

-- #m f=1
line_97 : influx_line (codes "#m f=1") ≡ None
unfolding on_lines
line_97 = refl
