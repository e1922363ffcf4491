-- Where a declaration of a number lies: its spans are of the sheet, and in order.
-- Assumes nothing.
use Rattle.std.specs.Prelude.{◌≡◌, List, ℕ, length, Option, None, Some}
use Rattle.sheet.specs.declared.declaration.Declaration.{Declaration}
use Rattle.sheet.specs.Table.{field_tag}
use Rattle.sheet.proofs.PlaceLaws.{Places}
use Rattle.basis.specs.First.{or_else}
use Rattle.scope.specs.declared.lookup.LookupScope.{LookupScope}
use Rattle.scope.specs.Scope.{holding}
use Rattle.scope.specs.inner.Answers.{InSheet, declared}
use Rattle.scope.proofs.Answers.{declared-some}
use Rattle.named.proofs.DeclaredPlaces.{Ordered, places-ordered, extension-lies, declaration-lies}
use Rattle.numbers.specs.Number.{has_number, is_extension_of, field_numbered, extension_numbered, declaration_of}

module _ (s m : List ℕ) (k : ℕ) (p : LookupScope) (l : InSheet s p) (d : Declaration) where
  declaration-places : declaration_of s (holding s p) m k ≡ Some d → Places (length s) d
  unfolding declaration_of
  declaration-places = go (field_numbered k (holding s p)) (declaration-lies s p l field_tag (has_number k) d)
    where
      go : (o : Option Declaration) → (o ≡ Some d → Places (length s) d) → or_else o (extension_numbered s m k) ≡ Some d
          → Places (length s) d
      go None f q = extension-lies s (is_extension_of s m k) d q
      go (Some x) f q = f q

  -- what `declaration_of` answers
  module _ (r : Option Declaration) (q : r ≡ declared (declaration_of s (holding s p) m k)) (g : r ≡ Some d) where
    pub numbered-places : Places (length s) d
    numbered-places = declaration-places (declared-some r (declaration_of s (holding s p) m k) q d g)

    pub numbered-ordered : Ordered d
    numbered-ordered = places-ordered numbered-places
