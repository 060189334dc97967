-- Rows that are told something one after another: those so far are told, and those after them are as they were.
use Rattle.std.proofs.Common.{◌≡◌, ◌∙◌, ℕ, ◌+◌, ◌<◌, List, ◌∷◌, length, take, drop, sym, ap, subst, arith}
use Rattle.std.proofs.Common.{get_or, set}
use Rattle.std.specs.List.{AllZip}
use Rattle.std.proofs.lemmas.List.{drop-set-lt, drop_more, get_or-drop, get_or_default, take_more_set}
use Rattle.std.proofs.lemmas.List.Elements.{all_zip_more}
use Rattle.lp_offsets.specs.declared.offsets.OffsetRow.{OffsetRow}

-- a row more is told this
module _ (Tells : OffsetRow → OffsetRow → Type 0) (old rows : List OffsetRow) (i : ℕ) (d told : OffsetRow) (here : i < length rows)
    (size : length rows ≡ length old) (others : drop i rows ≡ drop i old) (so_far : AllZip Tells (take i old) (take i rows))
    (tells : Tells (get_or rows i d) told) where
  -- the row
  abbrev row : OffsetRow
  row = get_or rows i d

  -- the row is as it was
  row_is : (e : OffsetRow) → get_or rows i e ≡ get_or old i e
  row_is e =
      let none : i + 0 ≡ i = omega arith in
      let same : get_or rows (i + 0) e ≡ get_or old (i + 0) e =
      sym (get_or-drop i rows 0 e) ∙ ap (λ (l : List OffsetRow). get_or l 0 e) others ∙ get_or-drop i old 0 e in
      subst (λ (k : ℕ). get_or rows k e ≡ get_or old k e) none same

  -- the rows so far are told
  pub tell_more : AllZip Tells (take (i + 1) old) (take (i + 1) (set rows i told))
  tell_more =
      let same : row ≡ get_or old i row = get_or_default rows i d row here ∙ row_is row in
      rw (take_more_set rows i told here)
      (all_zip_more Tells old (take i rows) i row told (omega (arith, here, size)) same so_far tells)

  -- and the rows after it are as they were
  pub others_stay : drop (i + 1) (set rows i told) ≡ drop (i + 1) old
  others_stay =
      let there : i < length old = omega (arith, here, size) in
      let same : row ∷ drop (i + 1) rows ≡ get_or old i d ∷ drop (i + 1) old = sym (drop_more rows i d here) ∙ others ∙ drop_more old i d there in
      let after : drop (i + 1) rows ≡ drop (i + 1) old = cc in
      drop-set-lt (i + 1) rows i told (omega arith) ∙ after
