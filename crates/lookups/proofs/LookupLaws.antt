-- Where that lies which a look-up of the option steps finds: a message, the type path of a field or of an extension, the values of an enum
-- are places of the sheet. They are for whoever reads the sheet at what was found.
-- Assumes nothing.
use Rattle.std.specs.Prelude.{◌≡◌, List, ℕ, ◌≤◌, length, Some, Ok, Option, Result}
use Rattle.field.specs.declared.Span.{Span}
use Rattle.field.specs.Leaf.{Lies}
use Rattle.path.specs.Path.{components}
use Rattle.sheet.specs.declared.declaration.Declaration.{Declaration}
use Rattle.sheet.specs.Table.{field_tag}
use Rattle.sheet.proofs.PlaceLaws.{Places}
use Rattle.scope.specs.declared.lookup.LookupScope.{LookupScope}
use Rattle.scope.specs.inner.Answers.{InSheet, declared}
use Rattle.fullname.proofs.LiesLaws.{looked-up-lies, looked-up-enum-ordered, looked-up-enum-within}
use Rattle.search.specs.declared.extension.Candidate.{Candidate}
use Rattle.search.specs.declared.extension.Compared.{Compared}
use Rattle.search.specs.declared.extension.Compared.TheVariants.{Extends}
use Rattle.search.proofs.LiesLaws.{extends-lies}
use Rattle.named.proofs.DeclaredPlaces.{named-places, declaration-lies}
use Rattle.lookups.specs.Lookups.{walking, field_named}
use Rattle.reply.specs.declared.Refusal.{Refusal}

-- ---- a message
module _ (s p : List ℕ) (r : Result LookupScope Refusal) (q : r ≡ (walking s).message p) (c : LookupScope) (g : r ≡ Ok c) where
  pub message-lies : InSheet s c
  message-lies = looked-up-lies s (components p) r q c g

-- ---- a field of a message
module _ (s : List ℕ) (c : LookupScope) (l : InSheet s c) (n : List ℕ) where
  pub field-named-lies : (d : Declaration) → field_named s n c ≡ Some d → Lies d.shape.path s
  field-named-lies d q = let k = declaration-lies s c l field_tag _ d q in (k.path.ordered, k.path.inside)

  module _ (r : Option Declaration) (q : r ≡ declared (field_named s n c)) (d : Declaration) (g : r ≡ Some d) where
    field-places : Places (length s) d
    field-places = named-places s c l field_tag n r q d g

    pub field-path-ordered : d.shape.path.from ≤ d.shape.path.to
    field-path-ordered = field-places.path.ordered

    pub field-path-within : d.shape.path.to ≤ length s
    field-path-within = field-places.path.inside

-- ---- an extension
module _ (s scope m n : List ℕ) (r : Result Compared Refusal) (q : r ≡ (walking s).extension scope m n) (c : Candidate) (g : r ≡ Ok (Extends c)) where
  extension-places : Places (length s) c.found.declaration
  extension-places = (extends-lies s scope m n r q c g).places

  pub extension-path-ordered : c.found.declaration.shape.path.from ≤ c.found.declaration.shape.path.to
  extension-path-ordered = extension-places.path.ordered

  pub extension-path-within : c.found.declaration.shape.path.to ≤ length s
  extension-path-within = extension-places.path.inside

-- ---- an enum
module _ (s p : List ℕ) (r : Result Span Refusal) (q : r ≡ (walking s).enumeration p) (x : Span) (g : r ≡ Ok x) where
  pub enum-ordered : x.from ≤ x.to
  enum-ordered = looked-up-enum-ordered s (components p) r q x g

  pub enum-within : x.to ≤ length s
  enum-within = looked-up-enum-within s (components p) r q x g

pub ruleset lookup_laws =
    (message-lies, field-path-ordered, field-path-within, extension-path-ordered, extension-path-within, enum-ordered, enum-within)
