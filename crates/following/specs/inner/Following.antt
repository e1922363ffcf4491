-- Rows that are followed one after the other by the keys of a name's parts.
--
--                 Followed ==  how far the open messages are the name's parts, and the best row so far
--               nothing_yet ==  nothing is followed yet
--                 is_at p y <=> a record that y declares is listed by the declaration at the place p
--       step_of ks n k c l y ==  what a row does at the level l that y declares, of n keys in the words ks; k and c are as in Step, before it
--               after s b x ==  what is followed after the row x that does s, b being the row taken before
--             follow ks n f x ==  what is followed after the row x
--          followed ks n f xs ==  what is followed after the rows xs
--
-- Assumes nothing.
use Rattle.std.specs.Prelude.{Bool, true, false, List, [], ◌∷◌, ℕ, ◌+◌, eqb, ltb, Option, None, Some}
use Rattle.basis.specs.First.{only_if}
use Rattle.entries.specs.declared.Row.{Row}
use Rattle.following.specs.declared.Step.{Step}
use Rattle.following.specs.inner.Keys.{key_at}
use Rattle.sheet.specs.declared.declaration.Declaration.{Declaration}

pub record Followed : Type 0 where
  pub matched : ℕ
  pub best : Option Row

abbrev pub nothing_yet : Followed
nothing_yet = record { matched = 0; best = None }

unfoldable pub is_at : (place : ℕ) → Option Declaration → Bool
is_at p None = false
is_at p (Some d) = eqb d.name.from p

abbrev pub step : (matched : ℕ) (counts takes : Bool) → Step
step k c t = record { matched = k; counts = c; takes = t }

abbrev pub after : Step → Option Row → Row → Followed
after s b x = record { matched = s.matched; best = only_if s.counts (only_if s.takes (Some x) b) None }

-- the levels deeper than the row's are closed by it; a row by the last part's key is taken; one by another part's key opens the level of the
-- next part, and what was taken before counts no more unless its records are joined
module _ (words : List ℕ) (count : ℕ) where
  abbrev pub by_key : (counts : Bool) (level : ℕ) → Option Declaration → Step
  by_key c l y = elim (is_at (key_at words l).place y) [
    | true ↦ elim (eqb (l + 1) count) [ true ↦ step l true true | false ↦ step (l + 1) (only_if (key_at words l).joins c false) false ]
    | false ↦ step l c false
  ]

  abbrev pub at_level : (counts : Bool) (level : ℕ) → Option Declaration → Step
  at_level c l y = elim (ltb l count) [ true ↦ by_key c l y | false ↦ step l c false ]

  unfoldable pub step_of : (matched : ℕ) (counts : Bool) (level : ℕ) → Option Declaration → Step
  step_of k c l y = elim (ltb k l) [ true ↦ step k c false | false ↦ at_level c l y ]

  unfoldable pub follow : Followed → Row → Followed
  follow f x = after (step_of f.matched true x.level x.entry.by) f.best x

  abbrev pub followed : Followed → List Row → Followed
  followed f [] = f
  followed f (x ∷ xs) = followed (follow f x) xs
