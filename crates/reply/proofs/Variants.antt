-- The variants of an enum that hold nothing, in the order written: what a test that antt computes over all of them says of each.
--
--    place_in ps c ==  the position of the variant c
--         many ps ==  how many variants there are
--       each ps p <=> the test p holds of each, and none holds anything
--
-- Assumes nothing.
use Rattle.std.specs.Prelude.{◌≡◌, refl, Bool, true, false, ◌&&◌, List, [], ◌∷◌, ℕ, zero, suc, ◌<◌}
use Rattle.basis.specs.Kit.{ap}
use Rattle.basis.proofs.Kit.{arith}
use mathlib.Core.Logic.{inl, inr}
use lib.Dec.{T}
use denote.Struct.Field.{Field}
use denote.Enum.Declared.{Choice}

abbrev pub place_in : (ps : List (List Field)) → Choice ps → ℕ
place_in [] c = absurd c
place_in (p ∷ ps) (inl x) = 0
place_in (p ∷ ps) (inr c) = suc (place_in ps c)

abbrev pub many : List (List Field) → ℕ
many [] = 0
many (p ∷ ps) = suc (many ps)

abbrev pub each : (ps : List (List Field)) → (Choice ps → Bool) → Bool
each [] p = true
each ([] ∷ ps) p = p (inl tt) && each ps (λ c. p (inr c))
each ((F ∷ Fs) ∷ ps) p = false

pub and_left : (a b : Bool) → T (a && b) → T a
and_left true b t = tt
and_left false b t = t

pub and_right : (a b : Bool) → T (a && b) → T b
and_right true b t = t
and_right false b t = absurd t

pub each_at : (ps : List (List Field)) (p : Choice ps → Bool) → T (each ps p) → (c : Choice ps) → T (p c)
each_at [] p t c = absurd c
each_at ([] ∷ ps) p t (inl x) = and_left (p (inl x)) (each ps (λ c. p (inr c))) t
each_at ([] ∷ ps) p t (inr c) = each_at ps (λ c. p (inr c)) (and_right (p (inl tt)) (each ps (λ c. p (inr c))) t) c
each_at ((F ∷ Fs) ∷ ps) p t c = absurd t

pub place-lt : (ps : List (List Field)) (c : Choice ps) → place_in ps c < many ps
place-lt [] c = absurd c
place-lt (p ∷ ps) (inl x) = omega arith
place-lt (p ∷ ps) (inr c) = let h = place-lt ps c in omega arith

-- the variant at a place
pub record Here (ps : List (List Field)) (i : ℕ) : Type 0 where
  pub choice : Choice ps
  pub place : place_in ps choice ≡ i

abbrev pub bare : List (List Field) → Bool
bare ps = each ps (λ c. true)

pub here : (ps : List (List Field)) → T (bare ps) → (i : ℕ) → i < many ps → Here ps i
here [] t i h = absurd (omega arith)
here ([] ∷ ps) t zero h = record { choice = inl tt; place = refl }
here ([] ∷ ps) t (suc i) h = let k = here ps t i (omega arith) in record { choice = inr k.choice; place = ap suc k.place }
here ((F ∷ Fs) ∷ ps) t i h = absurd t

pub place-one : (ps : List (List Field)) → T (bare ps) → (c e : Choice ps) → place_in ps c ≡ place_in ps e → c ≡ e
place-one [] t c e q = absurd c
place-one ([] ∷ ps) t (inl x) (inl y) q = refl
place-one ([] ∷ ps) t (inr c) (inr e) q = ap inr (place-one ps t c e (omega arith))
place-one ([] ∷ ps) t (inl x) (inr e) q = absurd (omega arith)
place-one ([] ∷ ps) t (inr c) (inl y) q = absurd (omega arith)
place-one ((F ∷ Fs) ∷ ps) t c e q = absurd t
