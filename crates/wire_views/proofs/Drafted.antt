-- A draft whose length and count are set is a frame.
use Rattle.std.proofs.Common.{◌≡◌, ℕ, ◌+◌, ◌-◌, List, [], ◌∷◌, ◌++◌, length, length-append, append_assoc, sym, ap, ◌∙◌, arith, Option}
use Rattle.std.specs.List.{flat_map}
use Rattle.std.specs.Int.{w16, w32, to_be_bytes}
use Rattle.pg_wire.specs.Parts.{cell_bytes}
use Rattle.pg_wire.specs.Backs.{back_body, back_frame}
use Rattle.pg_wire.specs.declared.back.Back.TheVariants as backs
use Rattle.wire_views.specs.declared.draft.RowDraft.{RowDraft}
use Rattle.wire_views.specs.Drafts.{draft_bytes, IsDraft, Overwrites}

module _ (d : RowDraft) (old before : List ℕ) (cells : List (Option (List ℕ))) (draft : IsDraft d old before cells) where
  abbrev Row : List ℕ
  Row = flat_map cell_bytes cells

  pub as_long : length old ≡ d.start + 7 + length Row
  as_long = let e = ap length draft.whole in let k = length-append before (draft_bytes cells) in let s = draft.start in omega arith

  -- what the length's four bytes tell
  pub told : (len : ℕ) → len ≡ length old → len - d.start - 1 ≡ length (back_body (backs.Cells cells)) + 4
  told len e = let l = as_long in omega arith

  module _ (middle now len count : List ℕ) (one : Overwrites (d.start + 1) len old middle) (two : Overwrites (d.start + 5) count middle now)
      (len_is : len ≡ to_be_bytes w32 (length (back_body (backs.Cells cells)) + 4)) (count_is : count ≡ to_be_bytes w16 (length cells)) where
    head_is : length (before ++ 68 ∷ []) ≡ d.start + 1
    head_is = let k = length-append before (68 ∷ []) in let s = draft.start in omega arith

    with_length : middle ≡ (before ++ 68 ∷ []) ++ (len ++ 0 ∷ 0 ∷ Row)
    with_length = one (before ++ 68 ∷ []) (0 ∷ 0 ∷ 0 ∷ 0 ∷ []) (0 ∷ 0 ∷ Row) (draft.whole ∙ sym (append_assoc before (68 ∷ []) (0 ∷ 0 ∷ 0 ∷ 0 ∷ 0 ∷ 0 ∷ Row))) head_is (sym (ap length len_is))

    front_is : length ((before ++ 68 ∷ []) ++ len) ≡ d.start + 5
    front_is = let k = length-append (before ++ 68 ∷ []) len in let h = head_is in let l : length len ≡ 4 = ap length len_is in omega arith

    with_count : now ≡ ((before ++ 68 ∷ []) ++ len) ++ (count ++ Row)
    with_count = two ((before ++ 68 ∷ []) ++ len) (0 ∷ 0 ∷ []) Row (with_length ∙ sym (append_assoc (before ++ 68 ∷ []) len (0 ∷ 0 ∷ Row))) front_is (sym (ap length count_is))

    pub finished : now ≡ before ++ back_frame (backs.Cells cells)
    finished =
        with_count ∙ (λ i. ((before ++ 68 ∷ []) ++ len_is i) ++ (count_is i ++ Row)) ∙ append_assoc (before ++ 68 ∷ []) (to_be_bytes w32 (length (back_body (backs.Cells cells)) + 4)) (to_be_bytes w16 (length cells) ++ Row)
        ∙ append_assoc before (68 ∷ []) (to_be_bytes w32 (length (back_body (backs.Cells cells)) + 4) ++ (to_be_bytes w16 (length cells) ++ Row))
