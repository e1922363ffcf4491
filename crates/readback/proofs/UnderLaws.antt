-- The records of option bytes under an options type are the reading of the bytes inside the message that the options type is.
-- Assumes nothing.
use Rattle.std.specs.Prelude.{◌≡◌, refl, List, ℕ, Err, Ok, Result}
use Rattle.basis.proofs.Never.{never}
use Rattle.limits.specs.Figures.{most_levels}
use Rattle.scope.specs.declared.lookup.LookupScope.{LookupScope}
use Rattle.lookups.specs.Lookups.{Lookups, Message}
use Rattle.entries.specs.Tree.{Tree}
use Rattle.entries.specs.Reading.{Listed, listed, refused, reading, under, within, on_type, records_of}
use Rattle.reply.specs.declared.Refusal.{Refusal}

module _ (L : Lookups) (s type bs : List ℕ) where
  pub reading-under : (p : LookupScope) → L.message type ≡ Ok p → (t : Tree)
      → reading L s most_levels (record { name = type; place = p }) 0 bs ≡ listed t
      → records_of L s type bs ≡ under (record { name = type; place = p }) t
  unfolding records_of
  reading-under p g t e = rw (g, e)

  within-reading : (n m : Message) (t : Tree) (x : Listed) → reading L s most_levels n 0 bs ≡ x → within n x ≡ under m t
      → reading L s most_levels m 0 bs ≡ listed t
  within-reading n m t (listed u) q e =
      let message : m ≡ n = cc in
      let tree : t ≡ u = cc in
      rw (message, tree) q
  within-reading n m t (refused w) q e = never cc

  pub under-reading : (m : Message) (t : Tree) → records_of L s type bs ≡ under m t → reading L s most_levels m 0 bs ≡ listed t
  unfolding records_of
  under-reading m t = go (L.message type)
    where
      go : (u : Result LookupScope Refusal) → on_type L s type bs u ≡ under m t → reading L s most_levels m 0 bs ≡ listed t
      go (Err w) e = never cc
      go (Ok p) e =
          let n : Message = record { name = type; place = p } in
          within-reading n m t (reading L s most_levels n 0 bs) refl e
