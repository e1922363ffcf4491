-- What a name part comes to: the ways through `step_extension` and `step_of`, over any look-ups, and where the type path of what was found
-- lies.
-- Assumes nothing.
use Rattle.std.specs.Prelude.{◌≡◌, refl, Bool, true, false, List, ℕ, ◌≤◌, length, Option, None, Some, Err, Ok, Result}
use Rattle.std.specs.Result.{result_ok}
use Rattle.basis.specs.Kit.{sym, ap, ◌∙◌}
use Rattle.basis.specs.First.{told}
use mathlib.Core.Path.{subst}
use Rattle.basis.proofs.Never.{never}
use Rattle.reply.specs.declared.Refusal.{Refusal}
use Rattle.path.specs.Path.{is_path}
use Rattle.field.specs.Leaf.{text, Lies}
use Rattle.sheet.specs.declared.declaration.Declaration.{Declaration}
use Rattle.scope.specs.declared.lookup.LookupScope.{LookupScope}
use Rattle.scope.specs.inner.Answers.{InSheet, declared}
use Rattle.search.specs.declared.extension.Candidate.{Candidate}
use Rattle.search.specs.declared.extension.Compared.{Compared}
use Rattle.search.specs.declared.extension.Compared.TheVariants.{Extends, ExtendsOther}
use Rattle.request.specs.declared.name.Part.{Part}
use Rattle.constantform.specs.Leaves.{good_part}
use Rattle.lookups.specs.Lookups.{Lookups, walking, field_named}
use Rattle.lookups.proofs.LookupLaws.{field-path-ordered, field-path-within, extension-path-ordered, extension-path-within}
use Rattle.steps.specs.declared.Lack.{Lack}
use Rattle.steps.specs.declared.Lack.TheVariants.{NoField, NoExtension, OtherMessage}
use Rattle.steps.specs.Steps.{step_extension, step_of}
use Rattle.steps.specs.inner.Reached.{message, StepLies}

-- ---- step_extension
module _ (v : Result Compared Refusal) where
  pub searched-refused : (w : Refusal) → v ≡ Err w → Err (NoExtension w) ≡ step_extension v
  searched-refused w g = sym (ap step_extension g)

  pub searched-other : (c : Candidate) → v ≡ Ok (ExtendsOther c) → Err (OtherMessage c) ≡ step_extension v
  searched-other c g = sym (ap step_extension g)

  pub searched-extends : (c : Candidate) → v ≡ Ok (Extends c) → Ok c.found.declaration ≡ step_extension v
  searched-extends c g = sym (ap step_extension g)

pub ruleset searched_laws = (searched-refused, searched-other, searched-extends)

-- ---- an extension part
module _ (L : Lookups) (s r scope n : List ℕ) (c : LookupScope) (p : Part) where
  pub step-extension : p.extension ≡ true → (v : Result Compared Refusal) → v ≡ L.extension scope n (text r p.name) → (u : Result Declaration Lack)
      → u ≡ step_extension v → u ≡ step_of L s r scope (message n c) p
  unfolding step_of
  step-extension x v q u e = e ∙ sym (rw (step_of, x, q) refl)

  -- ---- a direct part
  module _ (x : p.extension ≡ false) (v : Option Declaration) (q : v ≡ declared (field_named s (text r p.name) c)) where
    pub step-unknown : v ≡ None → Err NoField ≡ step_of L s r scope (message n c) p
    unfolding step_of
    step-unknown g = rw (step_of, x) (go (field_named s (text r p.name) c) (sym q ∙ g))
      where
        go : (o : Option Declaration) → declared o ≡ None → Err NoField ≡ told (Err NoField) Ok o
        go None e = refl
        go (Some d) e = never cc

    pub step_field : (d : Declaration) → v ≡ Some d → Ok d ≡ step_of L s r scope (message n c) p
    unfolding step_of
    step_field d g = rw (step_of, x) (go (field_named s (text r p.name) c) (sym q ∙ g))
      where
        go : (o : Option Declaration) → declared o ≡ Some d → Ok d ≡ told (Err NoField) Ok o
        go None e = never cc
        go (Some d') e = let y : d' ≡ d = cc in rw y refl

-- ---- what is asked of the name, and where the type path of what was found lies
pub part-path : (b : Bool) (t : List ℕ) → good_part b t ≡ true → b ≡ true → is_path t ≡ true
unfolding good_part
part-path b t g x = rw x at g

module _ (s : List ℕ) where
  pub lies-lack : (l : Lack) → StepLies s (Err l)
  lies-lack l = record { lies = λ d e. never cc }

  lies-found : (d : Declaration) → Lies d.shape.path s → StepLies s (Ok d)
  lies-found d l = record { lies = λ x e. let y : d ≡ x = cc in subst (λ (z : Declaration). Lies z.shape.path s) y l }

  pub lies-extension : (scope m n : List ℕ) (v : Result Compared Refusal) → v ≡ (walking s).extension scope m n → (u : Result Declaration Lack) → u ≡ step_extension v
      → StepLies s u
  lies-extension scope m n v q u e = subst (StepLies s) (sym e) (go v q)
    where
      go : (v : Result Compared Refusal) → v ≡ (walking s).extension scope m n → StepLies s (step_extension v)
      go (Err w) q = lies-lack (NoExtension w)
      go (Ok (ExtendsOther c)) q = lies-lack (OtherMessage c)
      go (Ok (Extends c)) q =
          lies-found c.found.declaration
          (extension-path-ordered s scope m n (Ok (Extends c)) q c refl, extension-path-within s scope m n (Ok (Extends c)) q c refl)

  pub lies-field : (c : LookupScope) → InSheet s c → (n : List ℕ) (v : Option Declaration) → v ≡ declared (field_named s n c)
      → (u : Result Declaration Lack) → v ≡ result_ok u → StepLies s u
  lies-field c l n v q (Err w) g = lies-lack w
  lies-field c l n v q (Ok d) g = lies-found d (field-path-ordered s c l n v q d g, field-path-within s c l n v q d g)

  module _ (v : Result Declaration Lack) (l : StepLies s v) (d : Declaration) (g : v ≡ Ok d) where
    pub step-path-ordered : d.shape.path.from ≤ d.shape.path.to
    step-path-ordered = (l.lies d g).0

    pub step-path-within : d.shape.path.to ≤ length s
    step-path-within = (l.lies d g).1

pub ruleset step_laws = (step-extension, step-unknown, step_field, part-path, lies-lack, lies-extension, lies-field)
