-- What declares a number at a message: a field of the message or an extension of it, and, where each number is declared once, whichever
-- was found by its name. The statements stand at the end.
-- Assumes nothing.
use Rattle.std.specs.Prelude.{◌≡◌, refl, List, ℕ, Option, None, Some, Ok}
use Rattle.basis.specs.Kit.{ap}
use Rattle.basis.specs.First.{or_else}
use Rattle.basis.proofs.Kit.{eq-eqb}
use Rattle.basis.proofs.Never.{never}
use Rattle.basis.proofs.AmongLaws.{behind-among}
use Rattle.basis.proofs.AmongFirsts.{first-none, first-some}
use mathlib.Core.Bool.{and-eq-true_iff}
use borrow.Author.Tests.{eqb-true}
use Rattle.sheet.specs.declared.declaration.Declaration.{Declaration}
use Rattle.sheet.specs.Tree.{tree_of}
use Rattle.sheet.specs.Members.{fields_of, every_extension}
use Rattle.scope.specs.Scope.{holding, extends}
use Rattle.numbers.specs.Number.{has_number, is_extension_of, field_numbered, extension_numbered, declaration_of}
use Rattle.lookups.specs.Lookups.{Lookups, Message}
use Rattle.entries.specs.Item.{declared}
use Rattle.readback.specs.Once.{DeclaredAt, as-field, as-extension, Once}

module _ (s : List ℕ) (m : Message) (n : ℕ) where
  field-declared : (d : Declaration) → field_numbered n (holding s m.place) ≡ Some d → DeclaredAt s m d × (d.shape.number ≡ n)
  field-declared d q =
      let p = first-some (has_number n) (fields_of (holding s m.place).items) q in
      (as-field (behind-among p.behind), eqb-true d.shape.number n p.passes)

  extension-declared : (d : Declaration) → extension_numbered s m.name n ≡ Some d → DeclaredAt s m d × (d.shape.number ≡ n)
  extension-declared d q =
      let p = first-some (is_extension_of s m.name n) (every_extension (tree_of s)) q in
      let both = (and-eq-true_iff (has_number n d) (extends s m.name d)).0 p.passes in
      (as-extension (behind-among p.behind) both.1, eqb-true d.shape.number n both.0)

  -- ==== the statements
  -- What declares a number at a message is a field of it or an extension of it, of that number.
  pub declared-only : (d : Declaration) → declared s m n ≡ Some d → DeclaredAt s m d × (d.shape.number ≡ n)
  unfolding declaration_of
  declared-only d = go (field_numbered n (holding s m.place)) (field-declared d)
    where
      go : (o : Option Declaration) → (o ≡ Some d → DeclaredAt s m d × (d.shape.number ≡ n))
          → or_else o (extension_numbered s m.name n) ≡ Some d → DeclaredAt s m d × (d.shape.number ≡ n)
      go None f q = extension-declared d q
      go (Some x) f q = f q

  -- Where there is one, the number is declared.
  pub declared-none : declared s m n ≡ None → (d : Declaration) → DeclaredAt s m d → d.shape.number ≡ n → ⊥
  unfolding declaration_of
  declared-none q d = go (field_numbered n (holding s m.place)) refl q
    where
      go : (o : Option Declaration) → field_numbered n (holding s m.place) ≡ o → or_else o (extension_numbered s m.name n) ≡ None
          → DeclaredAt s m d → d.shape.number ≡ n → ⊥
      go None f q (as-field k) e = first-none (has_number n) f k (eq-eqb _ _ e)
      go None f q (as-extension k x) e = first-none (is_extension_of s m.name n) q k (rw (eq-eqb _ _ e, x))
      go (Some x) f q k e = never cc

-- Where each number is declared once, that is the declaration itself.
pub declared-once : (L : Lookups) (s : List ℕ) → Once L s → (m : Message) → L.message m.name ≡ Ok m.place
    → (d : Declaration) → DeclaredAt s m d → declared s m d.shape.number ≡ Some d
declared-once L s once m at d k = go (declared s m d.shape.number) refl
  where
    go : (o : Option Declaration) → declared s m d.shape.number ≡ o → o ≡ Some d
    go None q = absurd (declared-none s m d.shape.number q d k refl)
    go (Some e) q =
        let y = declared-only s m d.shape.number e q in
        ap Some (once m at e d y.0 k y.1)
