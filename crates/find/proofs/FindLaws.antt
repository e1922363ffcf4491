-- The laws of `put_found`, `find_tested`, `find` and `found_name`: what was found lies in the sheet, so its words fit; and the ways to the
-- answers.
-- Assumes nothing.
use Rattle.std.specs.Prelude.{◌≡◌, refl, List, [], ◌∷◌, ℕ, ◌+◌, ◌-◌, ◌≤◌, ◌<◌, length, Err, None, Some, Ok, Option, Result}
use Rattle.basis.specs.Kit.{sym, ap, ◌∙◌}
use Rattle.basis.proofs.Kit.{arith, Fits}
use mir.Syntax.{w32}
use Rattle.basis.proofs.Never.{never}
use Rattle.limits.specs.Figures.{most_sheet}
use Rattle.octets.specs.Octets.{part}
use Rattle.reply.specs.declared.Refusal.{Refusal}
use Rattle.reply.specs.declared.Answer.{Answer}
use Rattle.reply.specs.Reply.{bare, refused_by}
use Rattle.reply.specs.Outcome.{give, Answered}
use Rattle.reply.proofs.Outcomes.{answered-refused}
use Rattle.reply.proofs.VerdictLaws.{first-fine-front}
use Rattle.field.specs.declared.Span.{Span}
use Rattle.field.specs.Part.{PartOf, no_bytes, span_in}
use Rattle.field.proofs.PartLaws.{span_ordered, span_within}
use Rattle.sheetform.specs.Form.{judge_length, judge_sheet}
use Rattle.search.specs.declared.extension.Found.{Found}
use Rattle.search.specs.Lookup.{find_extension_by_path}
use Rattle.search.proofs.LiesLaws.{FoundLies, found-lies}
use Rattle.find.specs.Find.{judge_all, unless, finding_by, finding, finding_tested, words_of, worded, find_words, find_tested}
use Rattle.find.specs.Find.{name_span, name_span_for}
use Rattle.find.specs.inner.Small.{word_bound, SmallSpan, Small}
use Rattle.find.proofs.FindingLaws.{finding-tested, words-tested}
use Rattle.sheetform.proofs.SheetLaws.{fine-length}
use Rattle.reply.specs.Verdicts.{Verdict, fine}

-- ---- what was found
record Finds (v : Verdict) (s c p : List ℕ) (f : Found) : Type 0 where
  fine : judge_all v c p ≡ fine
  is : find_extension_by_path s c p ≡ Ok f

finds : (v : Verdict) (s c p : List ℕ) (f : Found) → finding_by v s c p ≡ Ok f → Finds v s c p f
unfolding finding_by
finds v s c p f h = go (judge_all v c p) refl h
  where
    go : (u : Verdict) → judge_all v c p ≡ u → unless u (find_extension_by_path s c p) ≡ Ok f → Finds v s c p f
    go (Err w) x e = never cc
    go (Ok _) x e = record { fine = x; is = e }

module _ (s c p : List ℕ) (r : Result Found Refusal) (q : r ≡ finding_tested s c p) (f : Found) (g : r ≡ Ok f) where
  lies : FoundLies s f
  lies = found-lies s f c p (finds (judge_length s) s c p f (sym q ∙ g)).is

  short : length s ≤ most_sheet
  unfolding judge_all
  short = fine-length s (first-fine-front (judge_length s) _ (finds (judge_length s) s c p f (sym q ∙ g)).fine)

  pub finding-small : Small f
  finding-small =
      let file : f.file < word_bound = omega (arith, lies.counted, short) in
      let name = lies.places.name in
      let extendee = lies.places.extendee in
      let path = lies.places.path in
      record {
        file = file;
        name = record { ordered = name.ordered; below = omega (arith, name.inside, short) };
        extendee = record { ordered = extendee.ordered; below = omega (arith, extendee.inside, short) };
        path = record { ordered = path.ordered; below = omega (arith, path.inside, short) };
      }

  pub name-ordered : f.declaration.name.from ≤ f.declaration.name.to
  name-ordered = lies.places.name.ordered

  pub name-within : f.declaration.name.to ≤ length s
  name-within = lies.places.name.inside

-- ---- put_found
module _ (p : Span) (k : SmallSpan p) where
  pub place-fits : Fits w32 p.from
  place-fits = record { fits = omega (arith, k.ordered, k.below) }

  pub size_fits : Fits w32 (p.to - p.from)
  size_fits = record { fits = omega (arith, k.ordered, k.below) }

  pub size-ordered : p.from ≤ p.to
  size-ordered = k.ordered

module _ (f : Found) (k : Small f) where
  pub file-fits : Fits w32 f.file
  file-fits = record { fits = k.file }

  pub small-name : SmallSpan f.declaration.name
  small-name = k.name

  pub small-extendee : SmallSpan f.declaration.extendee
  small-extendee = k.extendee

  pub small-path : SmallSpan f.declaration.shape.path
  small-path = k.path

module _ (f : Found) (name-at name-size extendee-at extendee-size path-at path-size : ℕ)
    (a : name-at ≡ f.declaration.name.from) (b : name-size ≡ f.declaration.name.to - f.declaration.name.from)
    (c : extendee-at ≡ f.declaration.extendee.from)
    (d : extendee-size ≡ f.declaration.extendee.to - f.declaration.extendee.from)
    (e : path-at ≡ f.declaration.shape.path.from)
    (g : path-size ≡ f.declaration.shape.path.to - f.declaration.shape.path.from) (l l' : List ℕ) (r : Answer) where
  pub words-given :
      Answered (give
      (f.file ∷ name-at ∷ name-size ∷ extendee-at ∷ extendee-size ∷ f.declaration.shape.number ∷ f.declaration.shape.typ
      ∷ f.declaration.shape.label ∷ path-at ∷ path-size ∷ [])) l l' r
      → Answered (give (words_of f)) l l' r
  unfolding words_of
  words-given h = rw (← b, ← d, ← g, ← a, ← c, ← e) h

-- ---- find_tested
module _ (s c p l : List ℕ) (r : Result Found Refusal) (q : r ≡ finding_tested s c p) (a : Answer) where
  pub tested-refused : (w : Refusal) → r ≡ Err w → a ≡ refused_by w → Answered (find_tested s c p) l l a
  unfolding find_tested
  tested-refused w g e = rw e (answered-refused (find_tested s c p) l (bare w) (ap worded (sym q ∙ g)))

  pub tested-found : (f : Found) → r ≡ Ok f → (l' : List ℕ) → Answered (give (words_of f)) l l' a → Answered (find_tested s c p) l l' a
  unfolding find_tested
  tested-found f g l' h = rw (← q, g) h

-- ---- find
module _ (s c p l : List ℕ) (v : Verdict) (q : v ≡ judge_sheet s) (a : Answer) where
  pub find-refused : (w : Refusal) → v ≡ Err w → a ≡ refused_by w → Answered (find_words s c p) l l a
  unfolding find_words finding_by judge_all
  find-refused w g e = rw e (answered-refused (find_words s c p) l (bare w) (rw (← q, g)))

  pub find-found : v ≡ fine → (l' : List ℕ) → Answered (find_tested s c p) l l' a → Answered (find_words s c p) l l' a
  find-found g l' h = rw (words-tested s c p (sym q ∙ g)) h

-- ---- found_name
module _ (s t : List ℕ) (c p : Span) (b o : ℕ) (x : List ℕ) (b' o' : ℕ) (r : Option Span) (q : r ≡ span_in t c) where
  pub name-no-scope : r ≡ None → PartOf no_bytes s b o x b' o' → PartOf (name_span_for s t c p) s b o x b' o'
  unfolding name_span_for
  name-no-scope g h = rw (← q, g) h

  module _ (u : Span) (g : r ≡ Some u) (r' : Option Span) (q' : r' ≡ span_in t p) where
    pub name-no-path : r' ≡ None → PartOf no_bytes s b o x b' o' → PartOf (name_span_for s t c p) s b o x b' o'
    unfolding name_span_for
    name-no-path g' h = rw (← q, g, ← q', g') h

    pub name-for : (l : Span) → r' ≡ Some l → PartOf (name_span (finding s (part t u.from u.to) (part t l.from l.to))) s b o x b' o'
        → PartOf (name_span_for s t c p) s b o x b' o'
    unfolding name_span_for
    name-for l g' h = rw (← q, g, ← q', g') h

-- ---- name_in
module _ (s c p : List ℕ) (b o : ℕ) (v : Verdict) (q : v ≡ judge_sheet s) where
  pub name-bad-sheet : (w : Refusal) → v ≡ Err w → (x : List ℕ) (b' o' : ℕ) → PartOf no_bytes s b o x b' o'
      → PartOf (name_span (finding s c p)) s b o x b' o'
  unfolding finding_by judge_all
  name-bad-sheet w g x b' o' h = rw (← q, g) h

  module _ (g : v ≡ fine) (r : Result Found Refusal) (q' : r ≡ finding_tested s c p) where
    pub name-refused : (w : Refusal) → r ≡ Err w → (x : List ℕ) (b' o' : ℕ) → PartOf no_bytes s b o x b' o'
        → PartOf (name_span (finding s c p)) s b o x b' o'
    name-refused w g' x b' o' h = rw (finding-tested s c p (sym q ∙ g), ← q', g') h

    -- a part of a slice starts so many bytes behind it
    pub name-found : (f : Found) → r ≡ Ok f
        → PartOf (name_span (finding s c p)) s b o (part s f.declaration.name.from f.declaration.name.to) b
        (f.declaration.name.from + o)
    name-found f g' = rw (finding-tested s c p (sym q ∙ g), ← q', g') (record { bytes = refl; block = refl; offset = omega arith })

pub ruleset span_laws = (place-fits, size_fits, size-ordered)

pub ruleset put_found_laws = (file-fits, small-name, small-extendee, small-path, words-given)

pub ruleset find_tested_laws = (finding-small, tested-refused, tested-found)

pub ruleset find_laws = (find-refused, find-found)

pub ruleset name_in_laws = (name-ordered, name-within, name-bad-sheet, name-refused, name-found)

pub ruleset found_name_laws = (span_ordered, span_within, name-no-scope, name-no-path, name-for)
