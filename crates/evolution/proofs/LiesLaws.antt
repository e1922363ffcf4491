-- Where that lies which a declaration is made of: what is asked of the spans that are read.
-- Assumes nothing.
use Rattle.std.specs.Prelude.{◌≡◌, List, ℕ, ◌≤◌, length, Some, Option}
use Rattle.basis.proofs.Never.{never}
use Rattle.field.specs.declared.Span.{Span}
use Rattle.field.specs.Leaf.{Lies}
use Rattle.sheet.specs.declared.declaration.Declaration.{Declaration}
use Rattle.sheet.specs.Table.{field_tag}
use Rattle.sheet.proofs.PlaceLaws.{Places}
use Rattle.scope.specs.inner.Steps.{declaration_at}
use Rattle.named.proofs.DeclaredPlaces.{declaration-at-places}
use Rattle.names.specs.Names.{What, message, enumeration, extension}
use Rattle.names.proofs.StandsLaws.{Stands}
use Rattle.roster.specs.declared.Bearer.{Bearer}
use Rattle.roster.specs.declared.Bearer.TheVariants.{Message, Enum, Extension}
use Rattle.roster.specs.inner.Nth.{shown}
use Rattle.evolution.specs.inner.Bearers.{DeclaredLies, BearerLies, message-lies, enum_lies, extension-lies}

pub places-lie : {s : List ℕ} {d : Declaration} → Places (length s) d → DeclaredLies s d
places-lie p = record {
  name = (p.name.ordered, p.name.inside);
  extendee = (p.extendee.ordered, p.extendee.inside);
  path = (p.path.ordered, p.path.inside);
}

module _ (s : List ℕ) (d : Declaration) (k : DeclaredLies s d) where
  pub name-lies : Lies d.name s
  name-lies = k.name

  pub name-ordered : d.name.from ≤ d.name.to
  name-ordered = k.name.0

  pub name-within : d.name.to ≤ length s
  name-within = k.name.1

  pub extendee-lies : Lies d.extendee s
  extendee-lies = k.extendee

  pub extendee-ordered : d.extendee.from ≤ d.extendee.to
  extendee-ordered = k.extendee.0

  pub extendee-within : d.extendee.to ≤ length s
  extendee-within = k.extendee.1

  pub path-lies : Lies d.shape.path s
  path-lies = k.path

pub ruleset declared_lies_laws = (name-lies, name-ordered, name-within, extendee-lies, extendee-ordered, extendee-within, path-lies)

-- the declaration that a field of a message is
pub field-lies : (s : List ℕ) (t a e : ℕ) (r : Option Declaration) → r ≡ declaration_at field_tag s t a e → (d : Declaration) → r ≡ Some d
    → e ≤ length s → DeclaredLies s d
field-lies s t a e r q d g h = places-lie (declaration-at-places field_tag s t a e r q d g h)

-- ---- what bears a name
module _ (s : List ℕ) (b : Bearer) (k : BearerLies s b) where
  pub bearer-message : (p : Span) → b ≡ Message p → Lies p s
  bearer-message p g = go b k g
    where
      go : (b : Bearer) → BearerLies s b → b ≡ Message p → Lies p s
      go (Message q) (message-lies h) g = let u : p ≡ q = cc in rw u h
      go (Enum q) h g = never cc
      go (Extension d) h g = never cc

  pub bearer-enum : (p : Span) → b ≡ Enum p → Lies p s
  bearer-enum p g = go b k g
    where
      go : (b : Bearer) → BearerLies s b → b ≡ Enum p → Lies p s
      go (Message q) h g = never cc
      go (Enum q) (enum_lies h) g = let u : p ≡ q = cc in rw u h
      go (Extension d) h g = never cc

  pub bearer-extension : (d : Declaration) → b ≡ Extension d → DeclaredLies s d
  bearer-extension d g = go b k g
    where
      go : (b : Bearer) → BearerLies s b → b ≡ Extension d → DeclaredLies s d
      go (Message q) h g = never cc
      go (Enum q) h g = never cc
      go (Extension e) (extension-lies h) g = let u : d ≡ e = cc in rw u h

  module _ (d : Declaration) (g : b ≡ Extension d) where
    pub extended-ordered : d.extendee.from ≤ d.extendee.to
    extended-ordered = (bearer-extension d g).extendee.0

    pub extended-within : d.extendee.to ≤ length s
    extended-within = (bearer-extension d g).extendee.1

pub ruleset bearer_lies_laws = (bearer-message, bearer-enum, bearer-extension, extended-ordered, extended-within)

pub stands-lies : (s : List ℕ) (w : What) → Stands s w → BearerLies s (shown w)
stands-lies s (message c) k = message-lies k.0
stands-lies s (enumeration e) k = enum_lies k.0
stands-lies s (extension d) k = extension-lies (places-lie k)
