-- The whole name of a builtin, a single direct part: the ways through `builtin_part` and `built_at`.
-- Assumes nothing.
use Rattle.std.specs.Prelude.{◌≡◌, refl, Bool, true, false, List, [], ◌∷◌, ℕ, None, Some, Option, Result}
use Rattle.std.specs.Option.{is_some}
use Rattle.basis.specs.Kit.{sym, ap, ◌∙◌}
use Rattle.basis.proofs.Never.{never}
use Rattle.limits.specs.Figures.{most_constants}
use Rattle.field.specs.Field.{field_at, field}
use Rattle.field.specs.Walk.{walk}
use Rattle.field.proofs.FieldLaws.{field-ordered, field-within}
use Rattle.request.specs.declared.name.Part.{Part}
use Rattle.request.specs.Name.{part_at, parts_in}
use Rattle.request.specs.Request.{constant_of_field}
use Rattle.request.specs.Tree.{Constants, unnamed, none as no_constant, constant_in}
use Rattle.request.proofs.PartLaws.{parts-nil, parts-cons, part_places}
use Rattle.optionform.specs.inner.Parts.{LastConstant}
use Rattle.lookups.specs.Lookups.{Lookups, Message}
use Rattle.options.specs.inner.Written.{constant_at}
use Rattle.builtins.specs.declared.Built.{Built}
use Rattle.builtins.specs.Builtins.{builtin_of}
use Rattle.builtins.proofs.BuiltLaws.{built-inside}
use Rattle.options.specs.Settle.{builtin_part}
use Rattle.options.specs.inner.Settling.{parted}
use Rattle.field.specs.declared.Field.{Field}
use Rattle.reply.specs.declared.Refusal.{Refusal}

-- ---- builtin_part
extension-none : (p : Part) (ps : List Part) → p.extension ≡ true → builtin_part (p ∷ ps) ≡ None
extension-none p [] x = rw x refl
extension-none p (q ∷ ps) x = refl

module _ (r : List ℕ) (from to : ℕ) (v : Option Part) (q : v ≡ part_at r from to) where
  pub whole-none : v ≡ None → None ≡ parted (builtin_part (parts_in (walk r from to)))
  whole-none g = sym (ap (λ (ps : List Part). parted (builtin_part ps)) (parts-nil r from to v q g))

  module _ (p : Part) (g : v ≡ Some p) where
    whole-cons : parted (builtin_part (parts_in (walk r from to))) ≡ parted (builtin_part (p ∷ parts_in (walk r p.name.to to)))
    whole-cons = ap (λ (ps : List Part). parted (builtin_part ps)) (parts-cons r from to v q p g)

    pub whole-extension : p.extension ≡ true → None ≡ parted (builtin_part (parts_in (walk r from to)))
    whole-extension x = sym (whole-cons ∙ ap parted (extension-none p (parts_in (walk r p.name.to to)) x))

    module _ (x : p.extension ≡ false) (u : Option Part) (e : u ≡ part_at r p.name.to to) where
      pub whole-more : (b : Bool) → b ≡ is_some u → b ≡ true → None ≡ parted (builtin_part (parts_in (walk r from to)))
      whole-more b y z = go u refl (sym y ∙ z)
        where
          go : (w : Option Part) → u ≡ w → is_some w ≡ true → None ≡ parted (builtin_part (parts_in (walk r from to)))
          go None w z = never cc
          go (Some o) w z =
              sym (whole-cons ∙ ap (λ (ps : List Part). parted (builtin_part (p ∷ ps))) (parts-cons r p.name.to to u e o w))

      pub whole-alone : u ≡ None → Some p ≡ parted (builtin_part (parts_in (walk r from to)))
      whole-alone z =
          sym (whole-cons ∙ ap (λ (ps : List Part). parted (builtin_part (p ∷ ps))) (parts-nil r p.name.to to u e z) ∙ rw x refl)

pub ruleset builtin_part_laws = (whole-none, whole-extension, whole-more, whole-alone, part_places)

-- ---- built_at
module _ (r : List ℕ) (at to : ℕ) (f : Option Field) (q : f ≡ field_at r at to) where
  -- the constant that an option ends with is there
  pub last-whole : LastConstant r at to → f ≡ None → ⊥
  last-whole l g = let e : Some (field l.tag l.from l.to) ≡ None = sym l.whole ∙ sym q ∙ g in never cc

  module _ (here : Field) (g : f ≡ Some here) where
    constant-is : constant_in most_constants r unnamed here.tag here.from here.to no_constant ≡ constant_at r at to
    constant-is = sym (ap (constant_of_field r) g) ∙ ap (constant_of_field r) q

    pub built-is : (L : Lookups) (s : List ℕ) (m : Message) (n : List ℕ) (y : Result (Option Built) Refusal)
        → y ≡ builtin_of L s r m n (constant_in most_constants r unnamed here.tag here.from here.to no_constant) → y ≡ builtin_of L s r m n (constant_at r at to)
    built-is L s m n y o = o ∙ ap (λ (c : Constants). builtin_of L s r m n c) constant-is

pub ruleset built_at_laws = (last-whole, built-is, built-inside, field-ordered, field-within)
