-- What a fine request's tree is like: every leaf is what 01 allows, and nothing is left out. The final statements stand at the end; what
-- they say of an option goes on in optionform/proofs (FineLaws, PartsLaws), of its constant in constantform/proofs (FineLaws).
-- Assumes nothing.
use Rattle.std.specs.Prelude.{◌≡◌, refl, Bool, true, false, ◌&&◌, List, ◌∷◌, ℕ, suc, ◌+◌, ◌≤◌, ◌<◌, eqb, ltb, length, Err, Some, Ok, Option, Result}
use Rattle.basis.specs.Kit.{sym, ap, ◌∙◌}
use Rattle.basis.proofs.Kit.{arith}
use mathlib.Core.Path.{subst}
use mathlib.Core.Bool.{false≢true, not, and-eq-true_iff}
use borrow.Author.Tests.{eqb-true}
use Rattle.limits.specs.Figures.{most_request, most_options, most_parts}
use Rattle.path.specs.Path.{is_rel_path, is_rel_or_empty}
use Rattle.reply.specs.declared.Refusal.TheVariants.{BadRequest, BeyondLimit}
use Rattle.reply.proofs.VerdictLaws.{refused-fine, first-fine-front, first-fine-rest, judged-fine}
use Rattle.field.specs.Field.{field_at}
use Rattle.field.specs.Leaf.{text, any_bytes, on_leaf, leaf_at}
use Rattle.field.specs.Walk.{Walk, done, cut, step, walk, tags_in}
use Rattle.form.specs.Each.{each_from}
use Rattle.field.proofs.LeafLaws.{leaf-tested, leaf-untested, on-leaf-some}
use Rattle.field.proofs.WalkLaws.{walk_step}
use Rattle.request.specs.declared.heading.Heading.{Heading}
use Rattle.request.specs.Table.{scope_tag, options_type_tag, option_tag}
use Rattle.request.specs.Name.{parts_in, after_parts}
use Rattle.request.specs.Request.{RequestOption, heading_of, option_of, option_in, options_in, request_of}
use Rattle.request.proofs.RequestLaws.{heading-is}
use Rattle.reply.specs.Verdicts.{beyond, Verdict, fine}
use Rattle.constantform.specs.Form.{bad_request}
use Rattle.optionform.specs.Form.{parts_from, judge_option}
use Rattle.requestform.specs.Form.{judge_options, judge_request, whole_name, judge_name}
use Rattle.requestform.specs.Fine.{good_options, good_request}
use Rattle.optionform.specs.inner.Parts.{NameParts}
use Rattle.optionform.proofs.FineLaws.{PartsTo, parts-fine, parts-some, option-tagged, option-good, option-few}
use Rattle.constantform.proofs.FineConstants.{Within, walk-within}
use Rattle.field.specs.declared.Field.{Field}
use Rattle.reply.specs.declared.Refusal.{Refusal}
use Rattle.field.specs.declared.Span.{Span}

-- ---- options: each field is one
record FineOptions (s : List ℕ) (w : Walk) (os : List RequestOption) : Type 0 where
  good : good_options s os ≡ true
  whole : length os ≡ length (tags_in w)

option-more : (s : List ℕ) (i t a e : ℕ) (w : Walk) (os : List RequestOption) → e ≤ length s → judge_option s i t a e ≡ fine → FineOptions s w os
    → FineOptions s (step t a e w) (option_in s t a e os)
unfolding option_in
option-more s i t a e w os l p h = let y = option-tagged s i t a e p in rw y (at_option (rw y at p))
  where
    at_option : judge_option s i option_tag a e ≡ fine → FineOptions s (step option_tag a e w) (option_of s a e ∷ os)
    at_option q = record { good = rw (option-good s a e i l q, h.good); whole = ap suc h.whole }

options-fine : (s : List ℕ) (n : ℕ) (w : Walk) → Within s w → each_from BadRequest (judge_option s) n w ≡ fine
    → FineOptions s w (options_in s w)
options-fine s n done i p = record { good = refl; whole = refl }
options-fine s n cut i p = absurd (refused-fine BadRequest p)
options-fine s n (step t a e w) i p =
    let judge = judge_option s in
    let front = first-fine-front (judge n t a e) (each_from BadRequest judge (n + 1) w) p in
    let rest = first-fine-rest (judge n t a e) (each_from BadRequest judge (n + 1) w) p in
    option-more s n t a e w (options_in s w) i.0 front (options-fine s (n + 1) w i.1 rest)

options-few : (s : List ℕ) (n : ℕ) (w : Walk) → n ≤ most_options → each_from BadRequest (judge_option s) n w ≡ fine
    → n + length (tags_in w) ≤ most_options
options-few s n done h p = omega arith
options-few s n cut h p = absurd (refused-fine BadRequest p)
options-few s n (step t a e w) h p =
    let judge = judge_option s in
    let front = first-fine-front (judge n t a e) (each_from BadRequest judge (n + 1) w) p in
    let here = option-few s n a e (rw (option-tagged s n t a e front) at front) in
    let rest = first-fine-rest (judge n t a e) (each_from BadRequest judge (n + 1) w) p in
    omega (arith, options-few s (n + 1) w (omega (arith, here)) rest)

-- ---- a request: it has a heading, and what stands after it are options
record FineRequest (s : List ℕ) : Type 0 where
  heading : Heading
  heads : heading_of s ≡ Some heading
  scope : is_rel_or_empty (text s heading.scope) ≡ true
  options_type : is_rel_path (text s heading.options_type) ≡ true
  fine : each_from BadRequest (judge_option s) 0 (walk s heading.options (length s)) ≡ fine
  options : FineOptions s (walk s heading.options (length s)) (options_in s (walk s heading.options (length s)))

module _ (s : List ℕ) where
  typed-fine : (u : Span) → leaf_at scope_tag is_rel_or_empty s 0 (length s) ≡ Some u
      → on_leaf bad_request (leaf_at options_type_tag is_rel_path s u.to (length s)) (λ p. judge_options s p.to (length s)) ≡ fine
      → FineRequest s
  unfolding judge_options
  typed-fine u l p =
      on-leaf-some bad_request fine (leaf_at options_type_tag is_rel_path s u.to (length s)) (λ p. judge_options s p.to (length s))
      (FineRequest s)
      (λ q. refused-fine BadRequest (sym q))
      (λ w k q. record {
        heading = record { scope = u; options_type = w; options = w.to };
        heads =
            sym (heading-is s (leaf_at scope_tag any_bytes s 0 (length s)) refl u
            (leaf-untested scope_tag is_rel_or_empty s 0 (length s) u l)
            (leaf_at options_type_tag any_bytes s u.to (length s)) refl w
            (leaf-untested options_type_tag is_rel_path s u.to (length s) w k));
        scope = leaf-tested scope_tag is_rel_or_empty s 0 (length s) u l;
        options_type = leaf-tested options_type_tag is_rel_path s u.to (length s) w k;
        fine = sym q;
        options = options-fine s 0 (walk s w.to (length s)) (walk-within s (length s) (omega arith) w.to) (sym q);
      })
      (sym p)

  request-fine : judge_request s ≡ fine → FineRequest s
  unfolding judge_request
  request-fine = go (ltb most_request (length s))
    where
      typed : Span → Verdict
      typed u = on_leaf bad_request (leaf_at options_type_tag is_rel_path s u.to (length s)) (λ p. judge_options s p.to (length s))

      go : (b : Bool) → elim b [ true ↦ beyond | false ↦ on_leaf bad_request (leaf_at scope_tag is_rel_or_empty s 0 (length s)) typed ] ≡ fine
          → FineRequest s
      go true p = absurd (refused-fine BeyondLimit p)
      go false p =
          on-leaf-some bad_request fine (leaf_at scope_tag is_rel_or_empty s 0 (length s)) typed (FineRequest s)
          (λ q. refused-fine BadRequest (sym q))
          (λ u l q. typed-fine u l (sym q))
          (sym p)

-- a heading r, fine options after it, and an option of the tree for every field there
pub record Wholly (s : List ℕ) (r : Option Heading) : Type 0 where
  pub heading : Heading
  pub heads : r ≡ Some heading
  pub fine : each_from BadRequest (judge_option s) 0 (walk s heading.options (length s)) ≡ fine
  pub whole : length (request_of s).options ≡ length (tags_in (walk s heading.options (length s)))

-- ==== the statements
-- Scope, options type, every part and every name and identifier among the constants of a fine request's tree are what 01 allows, and
-- every option has 1 to 16 parts and one constant.
pub fine-good : (s : List ℕ) → judge_request s ≡ fine → good_request s (request_of s) ≡ true
unfolding request_of
fine-good s p =
    let f = request-fine s p in
    rw (f.heads, f.scope, f.options_type, f.options.good)

-- A fine request has a heading, and every field after it is fine and an option of the tree.
pub fine-options : (s : List ℕ) → judge_request s ≡ fine → (r : Option Heading) → r ≡ heading_of s → Wholly s r
unfolding request_of
fine-options s p r q =
    let f = request-fine s p in
    record { heading = f.heading; heads = q ∙ f.heads; fine = f.fine; whole = rw f.heads f.options.whole }

module _ (s : List ℕ) (p : judge_request s ≡ fine) (r : Option Heading) (q : r ≡ heading_of s) (h : Heading) (g : r ≡ Some h) where
  heading-same : (request-fine s p).heading ≡ h
  heading-same =
      let e : Some (request-fine s p).heading ≡ Some h = sym (request-fine s p).heads ∙ sym q ∙ g in
      cc

  -- The scope of a fine request is a path or empty,
  pub fine-scope : is_rel_or_empty (text s h.scope) ≡ true
  fine-scope = subst (λ (x : Heading). is_rel_or_empty (text s x.scope) ≡ true) heading-same (request-fine s p).scope

  -- its options type a path,
  pub fine-options-type : is_rel_path (text s h.options_type) ≡ true
  fine-options-type = subst (λ (x : Heading). is_rel_path (text s x.options_type) ≡ true) heading-same (request-fine s p).options_type

  -- and every field behind them is fine.
  pub fine-options-start : each_from BadRequest (judge_option s) 0 (walk s h.options (length s)) ≡ fine
  fine-options-start =
      subst (λ (x : Heading). each_from BadRequest (judge_option s) 0 (walk s x.options (length s)) ≡ fine) heading-same
      (request-fine s p).fine

module _ (s : List ℕ) (n i to : ℕ) (p : each_from BadRequest (judge_option s) n (walk s i to) ≡ fine) (h : i < to)
    (r : Option Field) (q : r ≡ field_at s i to) (f : Field) (g : r ≡ Some f) where
  options-opened : each_from BadRequest (judge_option s) n (step f.tag f.from f.to (walk s f.to to)) ≡ fine
  options-opened = ap (each_from BadRequest (judge_option s) n) (sym (walk_step s i to h r q f g)) ∙ p

  -- Where fine options have a field, that is a fine option: so on to every option of a request.
  pub fine-option-at : judge_option s n f.tag f.from f.to ≡ fine
  fine-option-at = first-fine-front (judge_option s n f.tag f.from f.to) (each_from BadRequest (judge_option s) (n + 1) (walk s f.to to)) options-opened

  -- The options that follow it are fine.
  pub fine-option-next : each_from BadRequest (judge_option s) (n + 1) (walk s f.to to) ≡ fine
  fine-option-next = first-fine-rest (judge_option s n f.tag f.from f.to) (each_from BadRequest (judge_option s) (n + 1) (walk s f.to to)) options-opened

-- A fine request has at most 128 options.
pub fine-few-options : (s : List ℕ) → judge_request s ≡ fine → length (request_of s).options ≤ most_options
fine-few-options s p =
    let f = fine-options s p (heading_of s) refl in
    omega (arith, f.whole, options-few s 0 (walk s f.heading.options (length s)) (omega arith) f.fine)

-- ---- a name alone: it has parts, they are good, and they end where it ends
record FineName (s : List ℕ) : Type 0 where
  place : ℕ
  parts : PartsTo s 0 place (parts_in (walk s 0 (length s))) (after_parts 0 (walk s 0 (length s)))
  some : place ≡ 0 → ⊥
  ends : place ≡ length s

module _ (s : List ℕ) where
  name-opened : (v : Result ℕ Refusal) → v ≡ parts_from s 0 0 (walk s 0 (length s)) → whole_name (length s) v ≡ fine → FineName s
  name-opened (Err w) q p = absurd (refused-fine w p)
  name-opened (Ok x) q p =
      let b = (and-eq-true_iff (not (eqb x 0)) (eqb x (length s))).0 (judged-fine BadRequest (not (eqb x 0) && eqb x (length s)) p) in
      record {
        place = x;
        parts = parts-fine s x (walk s 0 (length s)) 0 0 (omega arith) (sym q);
        some = λ z. false≢true (rw z at b.0);
        ends = eqb-true x (length s) b.1;
      }

  name-fine : judge_name s ≡ fine → FineName s
  unfolding judge_name
  name-fine = name-opened (parts_from s 0 0 (walk s 0 (length s))) refl

  -- From the start of a fine name stand good parts, up to its end.
  pub fine-name : judge_name s ≡ fine → NameParts s 0 (length s)
  fine-name p = let f = name-fine p in record { good = f.parts.good; follows = sym f.parts.ends ∙ f.ends }

  -- A fine name has a part.
  pub fine-name-some : judge_name s ≡ fine → 1 ≤ length (parts_in (walk s 0 (length s)))
  fine-name-some p =
      let f = name-fine p in
      parts-some (walk s 0 (length s)) 0 (λ z. f.some (f.parts.ends ∙ z))

  -- A fine name has at most 16 parts.
  pub fine-name-few : judge_name s ≡ fine → length (parts_in (walk s 0 (length s))) ≤ most_parts
  fine-name-few p = omega (arith, (name-fine p).parts.few)
