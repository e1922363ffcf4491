-- What the option steps promise, each statement below its sentence: found first, tested second, of the resolver itself, and the first refused
-- option ends the work. `s` is the sheet, `r` the request, `scope` the request's scope, `m` the message reached, `p` a part of a name.
-- Assumes nothing.
use Rattle.std.specs.Prelude.{◌≡◌, refl, true, false, List, [], ◌∷◌, ◌++◌, ℕ, ◌+◌, Err, Ok, Result}
use Rattle.basis.specs.Kit.{sym, ap, ◌∙◌}
use Rattle.basis.specs.Among.{Among}
use Rattle.basis.proofs.Never.{never}
use Rattle.reply.specs.declared.Refusal.{Refusal}
use Rattle.reply.specs.declared.Refusal.TheVariants.{ExtensionNotFound, WrongExtensionType}
use Rattle.path.specs.Path.{Path, is_path}
use Rattle.candidates.specs.Candidates.{candidates}
use Rattle.field.specs.Leaf.{text}
use Rattle.scope.specs.Scope.{extends}
use Rattle.search.specs.declared.extension.Candidate.{Candidate}
use Rattle.search.specs.declared.extension.Compared.{Compared}
use Rattle.search.specs.declared.extension.Compared.TheVariants.{Extends, ExtendsOther}
use Rattle.search.specs.Lookup.{tried, ext_resolve_field}
use Rattle.search.specs.Answers.{Undeclared, AnswersAt}
use Rattle.search.proofs.Theorems.{tried-answers, extendee-other, other-tried, other-extendee}
use Rattle.search.proofs.Theorems.{not-found-none, none-not-found, refusal-not-found}
use Rattle.request.specs.declared.name.Part.{Part}
use Rattle.request.specs.Request.{RequestOption}
use Rattle.request.specs.Tree.{Constants}
use Rattle.records.specs.Records.{Recs}
use Rattle.records.specs.Made.{wrong}
use Rattle.lookups.specs.Lookups.{Lookups, Message, walking}
use Rattle.known.specs.Known.{Known}
use Rattle.steps.specs.declared.Lack.{Lack}
use Rattle.steps.specs.declared.Lack.TheVariants.{NoField, NoExtension, OtherMessage}
use Rattle.faults.specs.declared.Fault.{Fault}
use Rattle.steps.specs.Steps.{why_of, step_extension, step_of}
use Rattle.options.specs.Named.{option_from}
use Rattle.faults.specs.Faults.{fault_at, cause_at}
use Rattle.options.specs.Settle.{Settled, known, others, fails, settle}
use Rattle.options.specs.Options.{stopped, next, gather}

-- ---- an extension part that is reached

-- the lack of a part is that the candidate which answers for its name has an extension of another message than the one reached
pub record Mismatch (s scope : List ℕ) (m : Message) (name : List ℕ) (l : Lack) : Type 0 where
  pub first : Candidate
  pub is : l ≡ OtherMessage first
  pub answers : tried s scope name ≡ Ok first
  pub declares : AnswersAt s scope name first
  pub other : extends s m.name first.found.declaration ≡ false

extension-inv : (u : Result Compared Refusal) (w : Refusal) → step_extension u ≡ Err (NoExtension w) → u ≡ Err w
extension-inv (Ok (Extends c)) w e = never cc
extension-inv (Ok (ExtendsOther c)) w e = never cc
extension-inv (Err v) w e = let y : v ≡ w = cc in ap Err y

other-inv : (u : Result Compared Refusal) (c : Candidate) → step_extension u ≡ Err (OtherMessage c) → u ≡ Ok (ExtendsOther c)
other-inv (Ok (Extends d)) c e = never cc
other-inv (Ok (ExtendsOther d)) c e = let y : d ≡ c = cc in ap (λ (x : Candidate). Ok (ExtendsOther x)) y
other-inv (Err v) c e = never cc

module _ (s r scope : List ℕ) (m : Message) (p : Part) (x : p.extension ≡ true) where
  abbrev name : List ℕ
  name = text r p.name

  abbrev searched : Result Compared Refusal
  searched = ext_resolve_field s scope m.name name

  step_is : step_of (walking s) s r scope m p ≡ step_extension searched
  unfolding step_of
  step_is = rw x refl

  -- It gets ExtensionNotFound only where no scope at a candidate path declares that name,
  pub part-not-found : is_path (text r p.name) ≡ true → (l : Lack) → step_of (walking s) s r scope m p ≡ Err l
      → why_of l ≡ ExtensionNotFound → (q : Path) → Among q (candidates scope (text r p.name)) → Undeclared s q
  part-not-found h NoField e g = never cc
  part-not-found h (OtherMessage c) e g = never cc
  part-not-found h (NoExtension w) e g =
      not-found-none s scope m.name name h (extension-inv searched w (sym step_is ∙ e) ∙ ap Err g)

  -- and wherever none does.
  pub part-undeclared : ((q : Path) → Among q (candidates scope (text r p.name)) → Undeclared s q)
      → step_of (walking s) s r scope m p ≡ Err (NoExtension ExtensionNotFound)
  part-undeclared k = step_is ∙ ap step_extension (none-not-found s scope m.name name k)

  -- It gets WrongExtensionType where the candidate that answers, the first, has an extension of another message,
  pub part-other-extendee : (c : Candidate) → tried s scope (text r p.name) ≡ Ok c
      → extends s m.name c.found.declaration ≡ false → step_of (walking s) s r scope m p ≡ Err (OtherMessage c)
  part-other-extendee c e g = step_is ∙ ap step_extension (extendee-other s scope m.name name c e g)

  -- and only there, with that candidate: the search does not go on.
  pub part-wrong : (l : Lack) → step_of (walking s) s r scope m p ≡ Err l → why_of l ≡ WrongExtensionType
      → Mismatch s scope m (text r p.name) l
  part-wrong NoField e g = never cc
  part-wrong (NoExtension w) e g =
      let n : w ≡ ExtensionNotFound = refusal-not-found s scope m.name name w (extension-inv searched w (sym step_is ∙ e)) in
      never cc
  part-wrong (OtherMessage c) e g =
      let u = other-inv searched c (sym step_is ∙ e) in
      let t = other-tried s scope m.name name c u in
      record {
        first = c;
        is = refl;
        answers = t;
        declares = tried-answers s scope name c t;
        other = other-extendee s scope m.name name c u;
      }

-- ---- whatever the look-ups are
module _ (L : Lookups) (s r scope : List ℕ) (m : Message) where
  -- A part that comes to nothing refuses its option, at its own position, whatever stands behind it.
  pub part-refused : (i : ℕ) (p : Part) (ps : List Part) (c : Constants) (l : Lack) → step_of L s r scope m p ≡ Err l
      → option_from L s r scope i m (p ∷ ps) c ≡ wrong (fault_at i (why_of l))
  part-refused i p [] c l e = rw e refl
  part-refused i p (q ∷ ps) c l e = rw e refl

  -- An option that is refused makes the whole refused, and no option behind it is looked at.
  pub option-refused : (i : ℕ) (ks : List Known) (x : Recs) (o : RequestOption) (os : List RequestOption) (f : Fault)
      → settle L s r scope m o ≡ fails f → gather L s r scope m i ks x (o ∷ os) ≡ stopped (cause_at i f)
  option-refused i ks x o os f e = rw e refl

  pub options-behind : (front : List RequestOption) (i : ℕ) (ks : List Known) (x : Recs) (o : RequestOption) (os os' : List RequestOption) (f : Fault)
      → settle L s r scope m o ≡ fails f
      → gather L s r scope m i ks x (front ++ o ∷ os) ≡ gather L s r scope m i ks x (front ++ o ∷ os')
  options-behind [] i ks x o os os' f e = option-refused i ks x o os f e ∙ sym (option-refused i ks x o os' f e)
  options-behind (a ∷ front) i ks x o os os' f e =
      go (settle L s r scope m a) (λ ks' x'. options-behind front (i + 1) ks' x' o os os' f e)
    where
      go : (v : Settled)
          → ((ks' : List Known) (x' : Recs)
          → gather L s r scope m (i + 1) ks' x' (front ++ o ∷ os) ≡ gather L s r scope m (i + 1) ks' x' (front ++ o ∷ os'))
          → next i ks x v (λ ks' x'. gather L s r scope m (i + 1) ks' x' (front ++ o ∷ os))
          ≡ next i ks x v (λ ks' x'. gather L s r scope m (i + 1) ks' x' (front ++ o ∷ os'))
      go (known k) more = more _ x
      go (others y) more = more ks _
      go (fails g) more = refl
