-- The parts of a name in two requests, at places that correspond.
--
--     SamePart w p p' <-> both are direct or both extension parts, of the same name
--   SameParted w v v' <-> both are no part, or the same part
--   SameParts w ps qs <-> the same parts, in order
--
-- Assumes nothing.
use Rattle.std.specs.Prelude.{◌≡◌, refl, List, [], ◌∷◌, ℕ, eqb, Some, None, Option}
use Rattle.field.specs.Leaf.{span}
use Rattle.field.specs.Walk.{Walk}
use Rattle.request.specs.declared.name.Part.{Part}
use Rattle.request.specs.Table.{direct_part_tag, extension_part_tag}
use Rattle.request.specs.Name.{part_of, leading, parts_in, further, after_parts}
use Rattle.alone.proofs.Tests.{by-test}
use Rattle.alone.proofs.Windows.{Twin, Here, SameSpan}
use Rattle.alone.proofs.Walks.{SameWalk, dones, cuts, steps}

pub record SamePart {r r' : List ℕ} (w : Twin r r') (p p' : Part) : Type 0 where
  pub extension : p.extension ≡ p'.extension
  pub name : SameSpan w p.name p'.name

pub data SameParted {r r' : List ℕ} (w : Twin r r') : Option Part → Option Part → Type 0 where
  both-none : SameParted w None None
  both-part : {p p' : Part} → SamePart w p p' → SameParted w (Some p) (Some p')

pub data SameParts {r r' : List ℕ} (w : Twin r r') : List Part → List Part → Type 0 where
  no-parts : SameParts w [] []
  part_then : {p p' : Part} {ps qs : List Part} → SamePart w p p' → SameParts w ps qs → SameParts w (p ∷ ps) (p' ∷ qs)

module _ {r r' : List ℕ} (w : Twin r r') where
  pub parted-same : (t : ℕ) {x x' y y' : ℕ} → SameSpan w (span x x') (span y y') → SameParted w (part_of t x x') (part_of t y y')
  unfolding part_of
  parted-same t h =
      by-test (SameParted w) (eqb t direct_part_tag) (both-part (record { extension = refl; name = h }))
      (by-test (SameParted w) (eqb t extension_part_tag) (both-part (record { extension = refl; name = h })) both-none)

  leading-same : {v v' : Option Part} {ps qs : List Part} → SameParted w v v' → SameParts w ps qs → SameParts w (leading v ps) (leading v' qs)
  leading-same both-none k = no-parts
  leading-same (both-part h) k = part_then h k

  pub parts_same : {u v : Walk} → SameWalk w u v → SameParts w (parts_in u) (parts_in v)
  parts_same dones = no-parts
  parts_same cuts = no-parts
  parts_same (steps {t} h k) = leading-same (parted-same t h) (parts_same k)

  further_same : {v v' : Option Part} {x x' y y' : ℕ} → SameParted w v v' → Here w x y → Here w x' y' → Here w (further v x x') (further v' y y')
  further_same both-none h k = h
  further_same (both-part p) h k = k

  pub after_same : {x y : ℕ} {u v : Walk} → Here w x y → SameWalk w u v → Here w (after_parts x u) (after_parts y v)
  after_same h dones = h
  after_same h cuts = h
  after_same h (steps {t} p k) = further_same (parted-same t p) h (after_same p.to k)
