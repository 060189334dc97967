-- The types of the fields of a line, one after another.
use Rattle.std.proofs.Common.{◌≡◌, ◌+◌, drop, ℕ, Bool, true, false, List, [], ◌∷◌, nat_lt, Option, None, Some, Result, Ok, Err, String, BTreeMap}
use Rattle.std.proofs.Common.{ap, sym, refl, ◌∙◌, arith}
use Rattle.std.specs.{BTreeMap.btree_map_len, BTreeMap.get_by_text, Map.update, Option.option_and_then, Option.option_or, Str.bytes_eq}
use Rattle.std.specs.Cmp.Lexicographic.{same_text}
use Rattle.std.specs.declared.alloc.Global.{Global}
use Rattle.influxdb_line_protocol.specs.code.{Parsed.field_of}
use Rattle.influxdb_line_protocol.specs.format.{Lines.logical_field, Points.Field, Points.Point}
use Rattle.influxdb_line_protocol.specs.types.{EscapedStr.EscapedStr, FieldValue.FieldValue}
use Rattle.lp_conditions.specs.declared.field_types.{FieldType.FieldType, KnownTypes.KnownTypes, TypeFault.TypeFault}
use Rattle.lp_conditions.specs.declared.field_types.TypeFault.TheVariants.{Conflict, TooMany}
use Rattle.lp_conditions.specs.FieldTypes.{OfFields, after_field, after_fields, after_first, after_point, is_type, type_of, types_in, types_of, and_then, with_fields, with_types}
use Rattle.lp_conditions.specs.TypeSteps.{fields_of, of_table, with_fresh}

-- functions that are the same everywhere are the same
same_function : {A B : Type 0} (f g : A → B) → ((x : A) → f x ≡ g x) → f ≡ g
same_function f g same = λ j x. same x j

-- a map without entries has nothing at a text
empty_text : {Y X : Type 0} (m : BTreeMap (String Y) X) (q : List ℕ) → m.entries ≡ [] → get_by_text m q ≡ None
empty_text m q none = rw none refl

-- a field that had its type before
pub field_same : (most : ℕ) (fields : OfFields) (number : ℕ) (f : Field) (was : FieldType) → fields.first f.key ≡ Some was
    → is_type was (type_of f.value) ≡ true → after_field most fields number f ≡ Ok fields
field_same most fields number f was known same = ap (after_first most fields number f) known ∙ rw same refl

-- a field that had another
pub field_other : (most : ℕ) (fields : OfFields) (number : ℕ) (f : Field) (was : FieldType) → fields.first f.key ≡ Some was
    → is_type was (type_of f.value) ≡ false → after_field most fields number f ≡ Err (Conflict number (type_of f.value) was)
field_other most fields number f was known other = ap (after_first most fields number f) known ∙ rw other refl

-- a new field for which there is no room
pub field_beyond : (most : ℕ) (fields : OfFields) (number : ℕ) (f : Field) → fields.first f.key ≡ None → nat_lt fields.count most ≡ false
    → after_field most fields number f ≡ Err (TooMany number)
field_beyond most fields number f new full = ap (after_first most fields number f) new ∙ rw full refl

module _ {Y : Type 0} where
  -- a new field, which is put among those of its line
  pub field_new : (most : ℕ) (known : BTreeMap (String Y) FieldType) (count : ℕ) (old new : BTreeMap (String Y) FieldType) (number : ℕ) (f : Field)
      → (with_fresh known count old).first f.key ≡ None → nat_lt (count + btree_map_len old) most ≡ true
      → ((q : List ℕ) → get_by_text new q ≡ update bytes_eq (get_by_text old) f.key (Some (type_of f.value)) q)
      → btree_map_len new ≡ btree_map_len old + 1
      → after_field most (with_fresh known count old) number f ≡ Ok (with_fresh known count new)
  field_new most known count old new number f none fits put more =
      let first = with_fresh known count old in
      let same = same_function (update bytes_eq first.first f.key (Some (type_of f.value))) (with_fresh known count new).first
      (λ q. one (bytes_eq f.key q) q refl) in
      let all : count + btree_map_len old + 1 ≡ count + btree_map_len new = omega (arith, more) in
      ap (after_first most first number f) none ∙ rw fits refl
      ∙ ap (λ (g : List ℕ → Option FieldType). Ok (record { first = g; count = count + btree_map_len old + 1 })) same
      ∙ ap (λ (n : ℕ). Ok (record { first = (with_fresh known count new).first; count = n })) all
    where
      -- at each key
      one : (b : Bool) (q : List ℕ) → bytes_eq f.key q ≡ b
          → update bytes_eq (with_fresh known count old).first f.key (Some (type_of f.value)) q ≡ (with_fresh known count new).first q
      one true q is = let at : get_by_text new q ≡ Some (type_of f.value) = put q ∙ rw is refl in rw (is, at) refl
      one false q is = let at : get_by_text new q ≡ get_by_text old q = put q ∙ rw is refl in rw (is, at) refl

module _ {Y : Type 0} where
  -- before the first field of a line none is new
  pub check_none : (known fresh : BTreeMap (String Y) FieldType) (count : ℕ) → fresh.entries ≡ [] → btree_map_len fresh ≡ 0
      → of_table known count ≡ with_fresh known count fresh
  check_none known fresh count none no_len =
      let same = same_function (get_by_text known) (with_fresh known count fresh).first
      (λ q. sym (ap (λ o. option_or o (get_by_text known q)) (empty_text fresh q none))) in
      let all : count ≡ count + btree_map_len fresh = omega (arith, no_len) in
      ap (λ (g : List ℕ → Option FieldType). record { first = g; count = count }) same
      ∙ ap (λ (n : ℕ). record { first = (with_fresh known count fresh).first; count = n }) all

  -- a field more fits
  pub check_fits : (most : ℕ) (known : BTreeMap (String Y) FieldType) (count : ℕ) (old new : BTreeMap (String Y) FieldType) (index number : ℕ)
      (fields : List (EscapedStr × FieldValue)) (x : EscapedStr × FieldValue) → number ≡ index + 1
      → drop index fields ≡ x ∷ drop (index + 1) fields
      → after_field most (with_fresh known count old) number (logical_field (field_of x)) ≡ Ok (with_fresh known count new)
      → after_fields most (with_fresh known count old) (index + 1) (fields_of (drop index fields))
      ≡ after_fields most (with_fresh known count new) (index + 1 + 1) (fields_of (drop (index + 1) fields))
  check_fits most known count old new index number fields x numbered first fits =
      let before = with_fresh known count old in
      let rest = fields_of (drop (index + 1) fields) in
      let f = logical_field (field_of x) in
      ap (λ (l : List (EscapedStr × FieldValue)). after_fields most before (index + 1) (fields_of l)) first
      ∙ ap (λ (n : ℕ). and_then (after_field most before n f) (λ next. after_fields most next (index + 1 + 1) rest)) (sym numbered)
      ∙ ap (λ (r : Result OfFields TypeFault). and_then r (λ next. after_fields most next (index + 1 + 1) rest)) fits

  -- or it does not
  pub check_wrong : (most : ℕ) (known : BTreeMap (String Y) FieldType) (count : ℕ) (old : BTreeMap (String Y) FieldType) (index number : ℕ)
      (fields : List (EscapedStr × FieldValue)) (x : EscapedStr × FieldValue) (fault : TypeFault) → number ≡ index + 1
      → drop index fields ≡ x ∷ drop (index + 1) fields
      → after_field most (with_fresh known count old) number (logical_field (field_of x)) ≡ Err fault
      → after_fields most (with_fresh known count old) (index + 1) (fields_of (drop index fields)) ≡ Err fault
  check_wrong most known count old index number fields x fault numbered first wrong =
      let before = with_fresh known count old in
      let rest = fields_of (drop (index + 1) fields) in
      let f = logical_field (field_of x) in
      ap (λ (l : List (EscapedStr × FieldValue)). after_fields most before (index + 1) (fields_of l)) first
      ∙ ap (λ (n : ℕ). and_then (after_field most before n f) (λ next. after_fields most next (index + 1 + 1) rest)) (sym numbered)
      ∙ ap (λ (r : Result OfFields TypeFault). and_then r (λ next. after_fields most next (index + 1 + 1) rest)) wrong

  -- a table that has the new types of a line too
  pub table_with : (old new fresh : BTreeMap (String Y) FieldType) (count n : ℕ)
      → ((q : List ℕ) → get_by_text new q ≡ option_or (get_by_text fresh q) (get_by_text old q)) → n ≡ count + btree_map_len fresh
      → with_fresh old count fresh ≡ of_table new n
  table_with old new fresh count n put all =
      let same = same_function (with_fresh old count fresh).first (get_by_text new) (λ q. sym (put q)) in
      ap (λ (g : List ℕ → Option FieldType). record { first = g; count = count + btree_map_len fresh }) same
      ∙ ap (λ (m : ℕ). record { first = get_by_text new; count = m }) (sym all)

-- a type that was taken out of the new ones of a line, and put into a table
pub pop_put : (left left_after known known_after : List ℕ → Option FieldType) (key q : List ℕ) (of : FieldType) → left key ≡ Some of
    → left_after q ≡ update bytes_eq left key None q → known_after q ≡ update bytes_eq known key (Some of) q
    → option_or (left_after q) (known_after q) ≡ option_or (left q) (known q)
pop_put left left_after known known_after key q of had taken put = one (bytes_eq key q) refl
  where
    -- at this key, and at each other
    one : (b : Bool) → bytes_eq key q ≡ b → option_or (left_after q) (known_after q) ≡ option_or (left q) (known q)
    one true is =
        let gone : left_after q ≡ None = taken ∙ rw is refl in
        let there : known_after q ≡ Some of = put ∙ rw is refl in
        let before : left q ≡ Some of = ap left (sym (same_text key q (sym is))) ∙ had in
        rw (gone, there, before) refl
    one false is =
        let same : left_after q ≡ left q = taken ∙ rw is refl in
        let stays : known_after q ≡ known q = put ∙ rw is refl in
        rw (same, stays) refl

-- the types of a measurement that has a table
pub types_in_table : (known : KnownTypes) (name : List ℕ) (t : BTreeMap (String Global) FieldType) → get_by_text known.fields name ≡ Some t
    → types_in (types_of known) name ≡ of_table t known.count
types_in_table known name t is =
    ap (λ o. record { first = λ key. option_and_then (λ fields. get_by_text fields key) o; count = known.count }) is

-- of one that has none
pub types_in_none : (known : KnownTypes) (name : List ℕ) (empty : BTreeMap (String Global) FieldType) → get_by_text known.fields name ≡ None
    → empty.entries ≡ [] → types_in (types_of known) name ≡ of_table empty known.count
types_in_none known name empty none is =
    ap (λ o. record { first = λ key. option_and_then (λ fields. get_by_text fields key) o; count = known.count }) none
    ∙ ap (λ (g : List ℕ → Option FieldType). record { first = g; count = known.count })
    (same_function (λ key. None) (get_by_text empty) (λ q. sym (empty_text empty q is)))

-- the types of a table, if there is one
abbrev table_types : Option (BTreeMap (String Global) FieldType) → List ℕ → Option FieldType
table_types o key = option_and_then (λ fields. get_by_text fields key) o

-- the types with a table of a measurement in place of what it had
pub types_with : (old new : KnownTypes) (name : List ℕ) (t : BTreeMap (String Global) FieldType) (n : ℕ)
    → ((q : List ℕ) → get_by_text new.fields q ≡ update bytes_eq (get_by_text old.fields) name (Some t) q) → new.count ≡ n
    → with_types (types_of old) name (of_table t n) ≡ types_of new
types_with old new name t n put counted =
    let same = same_function (with_types (types_of old) name (of_table t n)).first (types_of new).first (λ q. one (bytes_eq name q) q refl) in
    ap (λ (g : List ℕ → List ℕ → Option FieldType). record { first = g; count = n }) same
    ∙ ap (λ (m : ℕ). record { first = (types_of new).first; count = m }) (sym counted)
  where
    -- at each measurement
    one : (b : Bool) (q : List ℕ) → bytes_eq name q ≡ b → (with_types (types_of old) name (of_table t n)).first q ≡ (types_of new).first q
    one true q is = let at : get_by_text new.fields q ≡ Some t = put q ∙ rw is refl in rw is (ap table_types (sym at))
    one false q is = let at : get_by_text new.fields q ≡ get_by_text old.fields q = put q ∙ rw is refl in rw is (ap table_types (sym at))

-- if a measurement keeps its table, all types stay
pub types_same : (old new : KnownTypes) (name : List ℕ) (t : BTreeMap (String Global) FieldType) → get_by_text old.fields name ≡ Some t
    → ((q : List ℕ) → get_by_text new.fields q ≡ update bytes_eq (get_by_text old.fields) name (Some t) q) → new.count ≡ old.count
    → types_of new ≡ types_of old
types_same old new name t had put counted =
    let same = same_function (types_of new).first (types_of old).first (λ q. one (bytes_eq name q) q refl) in
    ap (λ (g : List ℕ → List ℕ → Option FieldType). record { first = g; count = new.count }) same
    ∙ ap (λ (m : ℕ). record { first = (types_of old).first; count = m }) counted
  where
    -- at each measurement
    one : (b : Bool) (q : List ℕ) → bytes_eq name q ≡ b → (types_of new).first q ≡ (types_of old).first q
    one true q is =
        let at : get_by_text new.fields q ≡ Some t = put q ∙ rw is refl in
        let before : get_by_text old.fields q ≡ Some t = ap (λ (l : List ℕ). get_by_text old.fields l) (sym (same_text name q (sym is))) ∙ had in
        ap table_types (at ∙ sym before)
    one false q is = let at : get_by_text new.fields q ≡ get_by_text old.fields q = put q ∙ rw is refl in ap table_types at

-- the fields of a point, whose measurement has this table, fit
pub point_kept : (most : ℕ) (old new : KnownTypes) (p : Point) (name : List ℕ) (fs : List Field) (t table : BTreeMap (String Global) FieldType)
    (n : ℕ) → name ≡ p.measurement → fs ≡ p.fields → types_in (types_of old) name ≡ of_table t old.count
    → after_fields most (of_table t old.count) 1 fs ≡ Ok (of_table table n)
    → ((q : List ℕ) → get_by_text new.fields q ≡ update bytes_eq (get_by_text old.fields) name (Some table) q) → new.count ≡ n
    → after_point most (types_of old) p ≡ Ok (types_of new)
point_kept most old new p name fs t table n named are its kept put counted =
    let types = types_of old in
    ap (λ (m : List ℕ). with_fields types m (after_fields most (types_in types m) 1 p.fields)) (sym named)
    ∙ ap (λ (l : List Field). with_fields types name (after_fields most (types_in types name) 1 l)) (sym are)
    ∙ ap (λ (o : OfFields). with_fields types name (after_fields most o 1 fs)) its
    ∙ ap (with_fields types name) kept ∙ ap Ok (types_with old new name table n put counted)

-- or one of them does not
pub point_refused : (most : ℕ) (old : KnownTypes) (p : Point) (name : List ℕ) (fs : List Field) (t : BTreeMap (String Global) FieldType)
    (fault : TypeFault) → name ≡ p.measurement → fs ≡ p.fields → types_in (types_of old) name ≡ of_table t old.count
    → after_fields most (of_table t old.count) 1 fs ≡ Err fault → after_point most (types_of old) p ≡ Err fault
point_refused most old p name fs t fault named are its wrong =
    let types = types_of old in
    ap (λ (m : List ℕ). with_fields types m (after_fields most (types_in types m) 1 p.fields)) (sym named)
    ∙ ap (λ (l : List Field). with_fields types name (after_fields most (types_in types name) 1 l)) (sym are)
    ∙ ap (λ (o : OfFields). with_fields types name (after_fields most o 1 fs)) its
    ∙ ap (with_fields types name) wrong
