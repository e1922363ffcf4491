-- The laws of the look-ups of an extension: the ways through `first_extension`, `find_extension_by_abs_path`, `try_candidates`,
-- `find_extension_by_path` and `ext_resolve_field_ext`.
--
--         named_in s n cs ==  the first extension of the name n in the scopes cs, as the code answers
--         tried_of s i ps ==  the first of the paths ps that answers, likewise; the first of ps has the position i
--   Trying v s ps l₀ l i <-> v is what the paths ps from the i-th on come to, and the room l, lent as l₀, holds every candidate
--
-- Assumes nothing.
use Rattle.std.specs.Prelude.{◌≡◌, refl, Bool, true, false, List, [], ◌∷◌, ℕ, ◌+◌, ◌-◌, ◌≤◌, ◌<◌, eqb, length, get_or, take, drop, Ok, Option, Err, None, Some, Result}
use Rattle.basis.specs.Kit.{sym, ap, ◌∙◌}
use Rattle.basis.proofs.Kit.{arith, add-one, not-true, not-false}
use lib.ListN.{drop_of_length-le}
use lib.Seq.{length-take-le, drop-cons, sets-eq, take-append_seam}
use Rattle.limits.specs.Figures.{most_candidate}
use Rattle.octets.specs.Octets.{part}
use Rattle.octets.specs.inner.Laid.{Laid}
use Rattle.octets.proofs.Overlay.{laid-length}
use Rattle.field.specs.Leaf.{is_text}
use Rattle.reply.specs.declared.Refusal.{Refusal}
use Rattle.reply.specs.declared.Refusal.TheVariants.{ExtensionNotFound}
use Rattle.path.specs.Path.{Name, Path, spell, components, parent, last, is_rel_or_empty, is_path}
use Rattle.path.specs.inner.Last.{LastStarts}
use Rattle.candidates.specs.Candidates.{candidates, candidate}
use Rattle.path.proofs.PathLaws.{components-nil}
use Rattle.candidates.proofs.CandidateLaws.{candidate-components, candidate-text-le}
use Rattle.sheet.specs.Table.{extension_tag}
use Rattle.sheet.specs.declared.declaration.Declaration.{Declaration}
use Rattle.cursor.specs.declared.Cursor.{Cursor}
use Rattle.search.specs.declared.extension.Found.{Found}
use Rattle.search.specs.declared.extension.Candidate.{Candidate}
use Rattle.search.specs.declared.extension.Compared.TheVariants.{Extends, ExtendsOther}
use Rattle.basis.specs.First.{first_some}
use Rattle.scope.specs.Scope.{Scope, holding, declaration_named}
use Rattle.scope.specs.inner.Answers.{declared}
use Rattle.scopes.specs.Scopes.{scopes}
use Rattle.cursor.specs.inner.Cursor.{ahead, start_of, Nexts}
use Rattle.search.specs.Lookup.{found_in, found_at, found_among, or_not_found, find_extension_by_abs_path, tried}
use Rattle.search.specs.Lookup.{find_extension_by_path, ext_resolve_field}
use Rattle.scope.proofs.Answers.{declared-none, declared-some}
use Rattle.search.proofs.TriedLaws.{resolved-none, resolved-some}
use Rattle.named.proofs.DeclaredPlaces.{places_laws}
use Rattle.search.proofs.LiesLaws.{tried-ordered, tried-places}
use Rattle.cursor.proofs.Left.{Left, left_end, left_step, left-next, left_laws}
use Rattle.cursor.proofs.StartLaws.{components-some, last-text, start-before, start-before-stands}
use Rattle.cursor.specs.declared.Next.{Next}

-- ---- first_extension
abbrev pub named_in : (s : List ℕ) (n : Name) (cs : List Scope) → Result Found Refusal
named_in s n cs = or_not_found Ok Err (first_some (found_in s n) cs)

module _ (v : Result Found Refusal) (s t : List ℕ) (n : Name) (c : Cursor) (k : Left v (named_in s n) s t c)
    (r : Option Next) (q : Nexts (ahead s t) s t c r) where
  pub extension-end : r ≡ None → Err ExtensionNotFound ≡ v
  extension-end g = sym (left_end v (named_in s n) s t c k r q g)

  module _ (m : Next) (g : r ≡ Some m)
      (d : Option Declaration) (x : d ≡ declared (declaration_named extension_tag s n (holding s m.scope))) where
    pub extension-found : (y : Declaration) → d ≡ Some y → Ok (record { file = m.scope.file; declaration = y }) ≡ v
    extension-found y z =
        sym (left_step v (named_in s n) s t c k r q m g
        ∙ rw (declared-some d (declaration_named extension_tag s n (holding s m.scope)) x y z))

    pub extension-next : d ≡ None → Left v (named_in s n) s t m.rest
    extension-next z =
        left-next v (named_in s n) s t c k r q m g (rw (declared-none d (declaration_named extension_tag s n (holding s m.scope)) x z))

pub ruleset first_extension_laws = (left_laws, extension-end, extension-found, extension-next)

-- ---- find_extension_by_abs_path
abs-some : (s : List ℕ) (p : Path) → (p ≡ [] → ⊥) → found_at s p ≡ first_some (found_in s (last p)) (scopes s (parent p))
unfolding found_at
abs-some s [] h = absurd (h refl)
abs-some s (n ∷ p) h = refl

module _ (s t : List ℕ) where
  pub abs-empty : length t ≡ 0 → Err ExtensionNotFound ≡ find_extension_by_abs_path s (components t)
  unfolding find_extension_by_abs_path found_at
  abs-empty h = rw (components-nil t h)

  pub abs-found : (length t ≡ 0 → ⊥) → (r : ℕ) → LastStarts t r → (b : List ℕ) → b ≡ take (r - 1) t
      → (c : Cursor) → c ≡ start_of (eqb r 0)
      → (v : Result Found Refusal) → v ≡ named_in s (part t r (length t)) (ahead s b c) → v ≡ find_extension_by_abs_path s (components t)
  unfolding find_extension_by_abs_path
  abs-found h r k b q c e v x =
      x ∙ rw (start-before s t r k b q c e, last-text t r k, abs-some s (components t) (components-some t h))

pub ruleset abs_extension_laws = (abs-empty, abs-found, start-before-stands)

-- ---- try_candidates
abbrev pub tried_of : (s : List ℕ) (i : ℕ) (ps : List Path) → Result Candidate Refusal
tried_of s i ps = or_not_found Ok Err (found_among s i ps)

pub record Trying (v : Result Candidate Refusal) (s : List ℕ) (ps : List Path) (l₀ l : List ℕ) (i : ℕ) : Type 0 where
  pub kept : length l ≡ length l₀
  pub room : most_candidate ≤ length l
  pub rest : v ≡ tried_of s i (drop i ps)

pub trying_start : (s scope name l : List ℕ) → most_candidate ≤ length l → Trying (tried s scope name) s (candidates scope name) l l 0
unfolding tried
trying_start s scope name l h = record { kept = refl; room = h; rest = refl }

pub trying-end : (v : Result Candidate Refusal) (s : List ℕ) (ps : List Path) (l₀ l : List ℕ) (i : ℕ) → Trying v s ps l₀ l i
    → (m : ℕ) → m ≡ length ps → m ≤ i → Err ExtensionNotFound ≡ v
trying-end v s ps l₀ l i k m e h = sym (k.rest ∙ rw (drop_of_length-le ps {i = i} (omega (arith, e, h))))

-- what is laid in room enough is the text in front
laid-text : (l bs l' : List ℕ) (n : ℕ) → Laid l 0 bs l' n → length bs ≤ length l → take n l' ≡ bs
laid-text l bs l' n d h =
    let same : n ≡ length bs = omega (arith, d.next) in
    rw (same, d.left, sets-eq bs l 0 (omega arith)) (take-append_seam bs (drop (0 + length bs) l))

module _ (v : Result Candidate Refusal) (s scope name l₀ l : List ℕ) (i : ℕ) (k : Trying v s (candidates scope name) l₀ l i)
    (h : is_rel_or_empty scope ≡ true) (j : is_path name ≡ true) (m : ℕ) (e : m ≡ length (candidates scope name)) (w : i < m)
    (l' : List ℕ) (n : ℕ) (d : Laid l 0 (spell (candidate scope name i)) l' n) where
  trying-fits : length (spell (candidate scope name i)) ≤ length l
  trying-fits = omega (arith, candidate-text-le scope name h j i (rw (← e) w), k.room)

  pub trying-within : n ≤ length l'
  trying-within = omega (arith, trying-fits, d.next, laid-length (spell (candidate scope name i)) d)

  pub trying-length : n ≡ length (take n l')
  trying-length = sym (length-take-le n l' trying-within)

  module _ (r : Result Found Refusal) (q : r ≡ find_extension_by_abs_path s (components (take n l'))) where
    looked-up : r ≡ or_not_found Ok Err (found_at s (candidate scope name i))
    unfolding find_extension_by_abs_path
    looked-up =
        let text = laid-text l (spell (candidate scope name i)) l' n d trying-fits in
        q ∙ rw (text, candidate-components scope name h j i (rw (← e) w))

    trying-step : v ≡ tried_of s i (candidate scope name i ∷ drop (i + 1) (candidates scope name))
    unfolding candidate
    trying-step =
        let ps = candidates scope name in
        let step : drop i ps ≡ get_or ps i [] ∷ drop (i + 1) ps = rw (add-one, drop-cons ps i [] (rw (← e) w)) in
        k.rest ∙ ap (tried_of s i) step

    pub trying-found : (f : Found) → r ≡ Ok f → Ok (record { position = i; found = f }) ≡ v
    trying-found f g = sym (trying-step ∙ rw (resolved-some (found_at s (candidate scope name i)) r looked-up f g))

    pub trying-next : (w : Refusal) → r ≡ Err w → Trying v s (candidates scope name) l₀ l' (i + 1)
    trying-next w g = record {
      kept = laid-length (spell (candidate scope name i)) d ∙ k.kept;
      room = omega (arith, k.room, laid-length (spell (candidate scope name i)) d);
      rest = trying-step ∙ rw (resolved-none (found_at s (candidate scope name i)) r looked-up w g);
    }

pub ruleset try_candidates_laws = (trying_start, trying-end, trying-within, trying-length, trying-found, trying-next)

-- ---- find_extension_by_path
module _ (s scope name : List ℕ) (r : Result Candidate Refusal) (q : r ≡ tried s scope name) where
  pub by-path-found : (c : Candidate) → r ≡ Ok c → Ok c.found ≡ find_extension_by_path s scope name
  unfolding find_extension_by_path
  by-path-found c g = rw (← q, g)

  pub by-path-refused : (w : Refusal) → r ≡ Err w → Err w ≡ find_extension_by_path s scope name
  unfolding find_extension_by_path
  by-path-refused w g = rw (← q, g)

pub ruleset extension_by_path_laws = (by-path-found, by-path-refused)

-- ---- ext_resolve_field_ext
module _ (s scope m name : List ℕ) (r : Result Candidate Refusal) (q : r ≡ tried s scope name) where
  pub resolve-refused : (w : Refusal) → r ≡ Err w → Err w ≡ ext_resolve_field s scope m name
  unfolding ext_resolve_field
  resolve-refused w g = rw (← q, g)

  module _ (c : Candidate) (g : r ≡ Ok c) (b : Bool) (x : b ≡ is_text s m c.found.declaration.extendee) where
    pub resolve-other : b ≡ false → Ok (ExtendsOther c) ≡ ext_resolve_field s scope m name
    unfolding ext_resolve_field
    resolve-other y = rw (← q, g, ← x, y)

    pub resolve_same : b ≡ true → Ok (Extends c) ≡ ext_resolve_field s scope m name
    unfolding ext_resolve_field
    resolve_same y = rw (← q, g, ← x, y)

pub ruleset resolve_laws = (
  resolve-refused,
  resolve-other,
  resolve_same,
  tried-ordered,
  tried-places,
  places_laws,
  not-true,
  not-false,
)
