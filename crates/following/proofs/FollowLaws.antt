-- One row, followed: the ways through `is_at` and `follow`.
-- Assumes nothing.
use Rattle.std.specs.Prelude.{◌≡◌, refl, Bool, true, false, List, ℕ, ◌+◌, ◌*◌, ◌≤◌, ◌<◌, eqb, ltb, get_or, None, Option, Some}
use Rattle.basis.specs.Kit.{sym, ap, ◌∙◌}
use Rattle.basis.specs.First.{only_if}
use Rattle.basis.proofs.Kit.{eq-eqb, ne_eqb, lt-ltb, le-ltb, not-true, not-false}
use Rattle.sheet.specs.declared.declaration.Declaration.{Declaration}
use Rattle.entries.specs.declared.Row.{Row}
use Rattle.following.specs.declared.Step.{Step}
use Rattle.following.specs.inner.Keys.{key_at, key_words}
use Rattle.following.specs.inner.Following.{is_at, step, after, by_key, at_level, step_of, follow}

-- ---- is_at
module _ (p : ℕ) (y : Option Declaration) where
  pub at_none : y ≡ None → false ≡ is_at p y
  unfolding is_at
  at_none g = ap (is_at p) (sym g)

  pub at_some : (d : Declaration) → y ≡ Some d → eqb d.name.from p ≡ is_at p y
  unfolding is_at
  at_some d g = ap (is_at p) (sym g)

-- ---- follow
module _ (ks : List ℕ) (n k : ℕ) (c : Bool) (l : ℕ) (y : Option Declaration) where
  pub step-deeper : k < l → step k c false ≡ step_of ks n k c l y
  unfolding step_of
  step-deeper h = sym (simp (step_of, lt-ltb k l h))

  module _ (o : l ≤ k) where
    pub step-behind : n ≤ l → step l c false ≡ step_of ks n k c l y
    unfolding step_of
    step-behind h = sym (simp (step_of, at_level, le-ltb k l o, le-ltb l n h))

    module _ (h : l < n) (b : Bool) (z : b ≡ is_at (get_or ks (l * key_words) 0) y) where
      by-key : step_of ks n k c l y ≡ by_key ks n c l y
      unfolding step_of
      by-key = simp (step_of, at_level, le-ltb k l o, lt-ltb l n h)

      key-seen : is_at (key_at ks l).place y ≡ b
      unfolding key_at
      key-seen = sym z

      pub step_other : b ≡ false → step l c false ≡ step_of ks n k c l y
      step_other g = sym (by-key ∙ simp (by_key, key-seen, g))

      module _ (g : b ≡ true) where
        pub step-last : l + 1 ≡ n → step l true true ≡ step_of ks n k c l y
        step-last e = sym (by-key ∙ simp (by_key, key-seen, g, eq-eqb (l + 1) n e))

        module _ (e : l + 1 ≡ n → ⊥) where
          pub step-joined : (get_or ks (l * key_words + 1) 0 ≡ 0 → ⊥) → step (l + 1) c false ≡ step_of ks n k c l y
          unfolding key_at
          step-joined j = sym (by-key ∙ simp (by_key, key-seen, g, ne_eqb (l + 1) n e, ne_eqb (get_or ks (l * key_words + 1) 0) 0 j))

          pub step-anew : get_or ks (l * key_words + 1) 0 ≡ 0 → step (l + 1) false false ≡ step_of ks n k c l y
          unfolding key_at
          step-anew j = sym (by-key ∙ simp (by_key, key-seen, g, ne_eqb (l + 1) n e, eq-eqb (get_or ks (l * key_words + 1) 0) 0 j))

-- ---- the row that was taken, where it counts
module _ (k l : ℕ) where
  -- the step by its five tests
  abbrev by : (deeper inside here last joins counts : Bool) → Step
  by d i h z j c = elim d [
    | true ↦ step k c false
    | false ↦ elim i [
      | true ↦ elim h [ true ↦ elim z [ true ↦ step l true true | false ↦ step (l + 1) (only_if j c false) false ] | false ↦ step l c false ]
      | false ↦ step l c false
    ]
  ]

  counted : (b : Option Row) (x : Row) (d i h z j c : Bool) → after (by d i h z j c) b x ≡ after (by d i h z j true) (only_if c b None) x
  counted b x true i h z j true = refl
  counted b x true i h z j false = refl
  counted b x false false h z j true = refl
  counted b x false false h z j false = refl
  counted b x false true false z j true = refl
  counted b x false true false z j false = refl
  counted b x false true true true j c = refl
  counted b x false true true false true true = refl
  counted b x false true true false true false = refl
  counted b x false true true false false c = refl

module _ (ks : List ℕ) (n k : ℕ) (c : Bool) (b : Option Row) (x : Row) where
  pub step_after : after (step_of ks n k c x.level x.entry.by) b x
      ≡ follow ks n (record { matched = k; best = only_if c b None }) x
  unfolding step_of follow
  step_after =
      counted k x.level b x (ltb k x.level) (ltb x.level n) (is_at (key_at ks x.level).place x.entry.by)
      (eqb (x.level + 1) n) (key_at ks x.level).joins c

pub ruleset follow_laws = (
  not-true,
  not-false,
  at_none,
  at_some,
  step-deeper,
  step-behind,
  step_other,
  step-last,
  step-joined,
  step-anew,
)
