-- Closed cases of the definitions, which the checker computes: containers with one fault and with two, and a limit on their fields.
-- Assumes nothing.
use Rattle.std.specs.Prelude.{◌≡◌, refl, true, false, List, [], ◌∷◌, ℕ, eqb, ltb, Err}
use Rattle.octets.specs.Octets.{big_at}
use Rattle.reply.specs.declared.Refusal.TheVariants.{BadSheet, BeyondLimit}
use Rattle.field.specs.Field.{field_at}
use Rattle.field.specs.Walk.{walk_by, walk}
use Rattle.form.specs.Each.{each, each_from}
use Rattle.reply.specs.Verdicts.{Verdict, fine}

-- two fields, 1 with no payload and 2 with one byte, and a third that is cut
fields : List ℕ
fields = 1 ∷ 0 ∷ 0 ∷ 2 ∷ 0 ∷ 1 ∷ 7 ∷ 3 ∷ 0 ∷ []

-- ---- the first fault is the answer: at the second field, at the cut behind it, and where both are
second : ℕ → ℕ → ℕ → Verdict
second t a e = elim (eqb t 2) [ true ↦ Err BeyondLimit | false ↦ fine ]

sound : ℕ → ℕ → ℕ → Verdict
sound t a e = fine

first-fault : each BadSheet second (walk fields 0 7) ∷ each BadSheet sound (walk fields 0 9) ∷ each BadSheet second (walk fields 0 9) ∷ []
    ≡ Err BeyondLimit ∷ Err BadSheet ∷ Err BeyondLimit ∷ []
unfolding fields second sound walk_by field_at big_at
first-fault = refl

-- a limit of one field
few : ℕ → ℕ → ℕ → ℕ → Verdict
few n t a e = elim (ltb n 1) [ true ↦ fine | false ↦ Err BeyondLimit ]

counted : each_from BadSheet few 0 (walk fields 0 3) ∷ each_from BadSheet few 0 (walk fields 0 7) ∷ [] ≡ fine ∷ Err BeyondLimit ∷ []
unfolding fields few walk_by field_at big_at
counted = refl
