-- The names of a text from a place on, and those before a place: the laws of a walk over the components by `component_end`.
-- Assumes nothing.
use Rattle.std.specs.Prelude.{◌≡◌, List, [], ◌∷◌, ◌++◌, ℕ, suc, ◌+◌, ◌-◌, ◌≤◌, ◌<◌, length, get_or, take, drop}
use Rattle.basis.specs.Kit.{sym, ap, ◌∙◌}
use Rattle.basis.proofs.Kit.{arith}
use native.Mathlib.Decide.{dec_lt}
use borrow.Author.Tests.{le-leb, lt-leb}
use lib.ListN.{length-drop}
use lib.Seq.{drop-cons, drop-drop, take-add, get_or-drop}
use Rattle.octets.specs.Octets.{part}
use Rattle.path.specs.Path.{dot, split, components}
use Rattle.path.specs.inner.Places.{until_dot, names_from}
use Rattle.path.proofs.PathLaws.{until-length-le, until-take, until-dotless, until-dot}
use Rattle.path.proofs.PathLaws.{split-last, split-more, split-dotless, split-append, components-nil, components-split}

-- ---- the component from `at` up to e, as `component_end` finds e
module _ (t : List ℕ) (at e : ℕ) (q : e ≡ at + length (until_dot (drop at t))) where
  pub end_after : at ≤ e
  end_after = omega arith

  pub piece_is : part t at e ≡ until_dot (drop at t)
  piece_is = let n : e - at ≡ length (until_dot (drop at t)) = omega arith in rw n (until-take (drop at t))

  piece-alone : split (part t at e) ≡ part t at e ∷ []
  piece-alone = split-dotless (part t at e) (rw piece_is (until-dotless (drop at t)))

  module _ (h : at ≤ length t) where
    pub end-within : e ≤ length t
    end-within = omega (arith, until-length-le (drop at t), length-drop at t)

    pub pieces-last : length t ≤ e → split (drop at t) ≡ part t at e ∷ []
    pieces-last l = let w = end-within in rw piece_is (split-last (drop at t) (omega (arith, length-drop at t)))

  -- a dot follows it
  module _ (l : e < length t) where
    pub next-less : length t - (e + 1) < length t - at
    next-less = omega arith

    pub end-dot : get_or t e 0 ≡ dot
    end-dot = rw q (sym (get_or-drop at t _ 0) ∙ until-dot (drop at t) (omega (arith, length-drop at t)))

    pub pieces_more : split (drop at t) ≡ part t at e ∷ split (drop (e + 1) t)
    pieces_more =
        let m : at + suc (length (until_dot (drop at t))) ≡ e + 1 = omega arith in
        rw piece_is (split-more (drop at t) (omega (arith, length-drop at t)) ∙ rw (drop-drop, m))

-- ---- the names from a place on
module _ (t : List ℕ) (at : ℕ) where
  pub names_at : at ≤ length t → names_from t at ≡ split (drop at t)
  unfolding names_from
  names_at h = simp (names_from, le-leb at (length t) h)

  pub names-past : length t < at → names_from t at ≡ []
  unfolding names_from
  names-past h = simp (names_from, lt-leb at (length t) h)

pub names-start : (t : List ℕ) → (length t ≡ 0 → ⊥) → names_from t 0 ≡ components t
names-start t h = names_at t 0 (omega arith) ∙ sym (components-split t h)

pub names-empty : (t : List ℕ) → length t ≡ 0 → names_from t 1 ≡ components t
names-empty t h = names-past t 1 (omega arith) ∙ sym (components-nil t h)

pub names-next : (t : List ℕ) (at : ℕ) → at ≤ length t → (e : ℕ) → e ≡ at + length (until_dot (drop at t))
    → names_from t at ≡ part t at e ∷ names_from t (e + 1)
names-next t at h e q = names_at t at h ∙ elim (dec_lt e (length t)) [
  | yes l ↦ pieces_more t at e q l ∙ rw (names_at t (e + 1) (omega arith))
  | no l ↦ pieces-last t at e q h (omega arith) ∙ rw (names-past t (e + 1) (omega arith))
]

-- ---- the names before a place: one component more
pub front-first : (t : List ℕ) (e : ℕ) → e ≡ 0 + length (until_dot (drop 0 t)) → split (take e t) ≡ part t 0 e ∷ []
front-first t e q = let n : e ≡ e - 0 = omega arith in ap (λ (k : ℕ). split (take k t)) n ∙ piece-alone t 0 e q

pub front-more : (t : List ℕ) (at e : ℕ) → at ≤ length t → 0 < at → get_or t (at - 1) 0 ≡ dot → e ≡ at + length (until_dot (drop at t))
    → split (take e t) ≡ split (take (at - 1) t) ++ (part t at e ∷ [])
front-more t at e h p d q =
    let one : suc (at - 1) ≡ at = omega arith in
    let n : e ≡ at - 1 + suc (e - at) = omega arith in
    let cut : take e t ≡ take (at - 1) t ++ dot ∷ part t at e =
    ap (λ (k : ℕ). take k t) n ∙ take-add (at - 1) (suc (e - at)) t ∙ rw (drop-cons t (at - 1) 0 (omega arith), d, one) in
    ap split cut ∙ split-append (take (at - 1) t) (part t at e) ∙ rw (piece-alone t at e q)
