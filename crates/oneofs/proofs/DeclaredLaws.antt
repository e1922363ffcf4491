-- In order of declaration the words of the groups are those of 01's lowering.
-- Assumes nothing.
use Rattle.std.specs.Prelude.{◌≡◌, refl, Bool, true, false, List, [], ◌∷◌, ℕ, suc, ◌+◌, eqb, ltb, length, None, Some}
use Rattle.basis.specs.Kit.{ap, ◌∙◌}
use Rattle.basis.proofs.Kit.{arith, ne_eqb}
use Rattle.limits.specs.Figures.{most_words}
use Rattle.reply.specs.declared.Refusal.TheVariants.{BadRequest, BeyondLimit}
use Rattle.reply.specs.declared.Answer.{Answer}
use Rattle.reply.specs.Outcome.{Outcome, refuse, push, Answered}
use Rattle.oneofs.specs.Fields.{oneofs, lower_fields, Kind, real, synthetic, oneof, Group, joining, groups_after, real_count}
use Rattle.oneofs.specs.Fields.{declared, word_of, numbered, lower_fields_by}
use Rattle.oneofs.proofs.IndexLaws.{index-declared}
use Rattle.oneofs.proofs.GroupLaws.{numbered-push}

-- groups and words of the same fields
record Same (reals : ℕ) (o : Outcome Group) (q : Outcome ℕ) : Type 0 where
  words : numbered declared reals o ≡ q

module _ (reals : ℕ) where
  same_if : (b : Bool) {o o' : Outcome Group} {q q' : Outcome ℕ} → Same reals o q → Same reals o' q'
      → Same reals (elim b [ true ↦ o | false ↦ o' ]) (elim b [ true ↦ q | false ↦ q' ])
  same_if true e e' = e
  same_if false e e' = e'

  module _ (x : ℕ) (o : Outcome Group) (q : Outcome ℕ) (h : Same reals o q) where
    same-push : (g : Group) → word_of declared reals g ≡ x → Same reals (push (g ∷ []) o) (push (x ∷ []) q)
    same-push g e = record { words = rw (numbered-push declared reals g o, e, h.words) }

    same-joining : (member : Group) → word_of declared reals member ≡ x
        → Same reals (joining member o) (elim (eqb x 0) [ true ↦ refuse BadRequest | false ↦ push (x ∷ []) q ])
    same-joining None e = rw (← e) (record { words = refl })
    same-joining (Some y) e = rw (ne_eqb x 0 λ z. absurd (omega (arith, e))) (same-push (Some y) e)

  word-declared : (k : Kind) (r s : ℕ) → word_of declared reals (Some (oneof k r s)) ≡ suc (r + s)
  word-declared k r s = ap suc (index-declared declared reals r s k refl)

  groups-same : (r s count : ℕ) (member : Group) (x : ℕ) (ws : List ℕ) → r + s ≡ count → word_of declared reals member ≡ x
      → Same reals (groups_after r s member ws) (oneofs count x ws)
  unfolding groups_after oneofs
  groups-same r s count member x [] c e = record { words = refl }
  groups-same r s count member x (w ∷ ws) c e =
      let word : (k : Kind) → word_of declared reals (Some (oneof k r s)) ≡ suc count = λ k. word-declared k r s ∙ ap suc c in
      same_if (eqb w 0) (same-push 0 _ _ (groups-same r s count None 0 ws c refl) None refl)
      (same_if (eqb w 1)
      (same-push (suc count) _ _ (groups-same r (suc s) (suc count) None 0 ws (omega arith) refl) (Some (oneof synthetic r s))
      (word synthetic))
      (same_if (eqb w 2) (groups-same (suc r) s (suc count) (Some (oneof real r s)) (suc count) ws (omega arith) (word real))
      (same_if (eqb w 3) (same-joining x _ _ (groups-same r s count member x ws c e) member e) (record { words = refl }))))

pub fields-declared : (ws : List ℕ) → lower_fields_by declared ws ≡ lower_fields ws
unfolding lower_fields_by lower_fields
fields-declared ws =
    ap (λ (o : Outcome ℕ). elim (ltb most_words (length ws)) [ true ↦ refuse BeyondLimit | false ↦ o ])
    (groups-same (real_count ws) 0 0 0 None 0 ws refl refl).words

pub answered_declared : (ws before after : List ℕ) (a : Answer) → Answered (lower_fields_by declared ws) before after a
    → Answered (lower_fields ws) before after a
answered_declared ws before after a k = rw (fields-declared ws) at k
