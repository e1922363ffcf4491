-- The words of the fields that are left, by the word at the front.
--
--   words numbering reals r s member ws == the words of the fields ws after r real and s synthetic oneofs
--
-- Assumes nothing.
use Rattle.std.specs.Prelude.{◌≡◌, refl, List, [], ◌∷◌, map, ℕ, suc, ◌+◌, None, Some}
use Rattle.basis.specs.Kit.{sym}
use Rattle.basis.proofs.Kit.{arith, add-one, eq-eqb, ne_eqb}
use Rattle.basis.proofs.Never.{never}
use Rattle.reply.specs.declared.Refusal.TheVariants.{BadRequest}
use Rattle.reply.specs.Outcome.{Outcome, refused, refuse, nothing, give, push}
use Rattle.emit.proofs.WriteLaws.{give-inv}
use Rattle.oneofs.specs.Fields.{real, synthetic, oneof, Group, joining, groups_after, index_of, word_of, numbered}

-- the words of fields, after r real and s synthetic oneofs
abbrev pub words : (numbering reals r s : ℕ) (group : Group) (ws : List ℕ) → Outcome ℕ
words numbering reals r s group ws = numbered numbering reals (groups_after r s group ws)

-- what the words are made of
pub numbered-given : (numbering reals : ℕ) (xs : List ℕ) (o : Outcome Group) → numbered numbering reals o ≡ give xs
    → (gs : List Group) × (o ≡ give gs) × (xs ≡ map (word_of numbering reals) gs)
numbered-given numbering reals xs (refused c) e = never cc
numbered-given numbering reals xs nothing e = never cc
numbered-given numbering reals xs (give gs) e = (gs, refl, sym (give-inv e))

module _ (numbering reals : ℕ) where
  pub numbered-push : (g : Group) (o : Outcome Group)
      → numbered numbering reals (push (g ∷ []) o) ≡ push (word_of numbering reals g ∷ []) (numbered numbering reals o)
  numbered-push g (refused c) = refl
  numbered-push g nothing = refl
  numbered-push g (give gs) = refl

  joining-none : (group : Group) (o : Outcome Group) → word_of numbering reals group ≡ 0 → joining group o ≡ refuse BadRequest
  joining-none None o e = refl
  joining-none (Some x) o e = absurd (omega arith)

  joining-some : (group : Group) (o : Outcome Group) → (word_of numbering reals group ≡ 0 → ⊥) → joining group o ≡ push (group ∷ []) o
  joining-some None o e = absurd (e refl)
  joining-some (Some x) o e = refl

  module _ (r s : ℕ) (group : Group) (w : ℕ) (ws : List ℕ) where
    pub words-plain : w ≡ 0 → words numbering reals r s group (w ∷ ws) ≡ push (0 ∷ []) (words numbering reals r s None ws)
    unfolding groups_after
    words-plain e = simp (groups_after, eq-eqb w 0 e, numbered-push None)

    module _ (a : w ≡ 0 → ⊥) where
      pub words-optional : w ≡ 1 → words numbering reals r s group (w ∷ ws)
          ≡ push ((index_of numbering reals (oneof synthetic r s) + 1) ∷ []) (words numbering reals r (suc s) None ws)
      unfolding groups_after
      words-optional e = simp (groups_after, ne_eqb w 0 a, eq-eqb w 1 e, numbered-push (Some (oneof synthetic r s)), add-one)

      module _ (b : w ≡ 1 → ⊥) where
        pub words-opens : w ≡ 2 → words numbering reals r s group (w ∷ ws) ≡ words numbering reals (suc r) s (Some (oneof real r s)) ws
        unfolding groups_after
        words-opens e = simp (groups_after, ne_eqb w 0 a, ne_eqb w 1 b, eq-eqb w 2 e)

        module _ (d : w ≡ 2 → ⊥) where
          pub words-other : (w ≡ 3 → ⊥) → words numbering reals r s group (w ∷ ws) ≡ refuse BadRequest
          unfolding groups_after
          words-other e = simp (groups_after, ne_eqb w 0 a, ne_eqb w 1 b, ne_eqb w 2 d, ne_eqb w 3 e)

          pub words-stray : w ≡ 3 → word_of numbering reals group ≡ 0 → words numbering reals r s group (w ∷ ws) ≡ refuse BadRequest
          unfolding groups_after
          words-stray e m =
              simp (groups_after, ne_eqb w 0 a, ne_eqb w 1 b, ne_eqb w 2 d, eq-eqb w 3 e, joining-none group (groups_after r s group ws) m)

          pub words-member : w ≡ 3 → (word_of numbering reals group ≡ 0 → ⊥) → words numbering reals r s group (w ∷ ws)
              ≡ push (word_of numbering reals group ∷ []) (words numbering reals r s group ws)
          unfolding groups_after
          words-member e m =
              let inner = groups_after r s group ws in
              simp (groups_after, ne_eqb w 0 a, ne_eqb w 1 b, ne_eqb w 2 d, eq-eqb w 3 e, joining-some group inner m, numbered-push group)
