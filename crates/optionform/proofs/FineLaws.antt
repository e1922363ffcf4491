-- What the tree of a fine option is like: every part is what 01 allows, and nothing is left out. The final statements stand at the end.
-- Assumes nothing.
use Rattle.std.specs.Prelude.{◌≡◌, refl, Bool, true, false, List, [], ◌∷◌, ℕ, suc, ◌+◌, ◌≤◌, ◌<◌, eqb, ltb, length, Err, None, Some, Ok, Option, Result}
use Rattle.basis.specs.Kit.{sym, ap, ◌∙◌}
use Rattle.basis.proofs.Kit.{arith}
use mathlib.Core.Path.{subst}
use native.Mathlib.Decide.{ℕ_discrete}
use borrow.Author.Tests.{ltb-true, ltb-false, eqb-true, eqb-false, le-leb}
use Rattle.basis.proofs.Never.{never}
use Rattle.limits.specs.Figures.{most_options, most_parts, most_constants}
use Rattle.reply.specs.declared.Refusal.TheVariants.{BadRequest, BeyondLimit}
use Rattle.reply.specs.Verdicts.{judged, fine}
use Rattle.reply.proofs.VerdictLaws.{refused-fine, first-fine-front, first-fine-rest, judged-fine}
use Rattle.field.specs.Field.{field_at, field}
use Rattle.field.specs.Leaf.{text}
use Rattle.field.specs.Walk.{Walk, done, cut, step, walk, tags_in}
use Rattle.field.proofs.FieldLaws.{Bounds, field-bounds}
use Rattle.field.proofs.WalkLaws.{walk-done, walk-cut, walk_step}
use Rattle.request.specs.declared.name.Part.{Part}
use Rattle.request.specs.Table.{option_tag}
use Rattle.request.specs.Name.{part_of, leading, further, parts_in, after_parts}
use Rattle.request.specs.Tree.{unnamed, none}
use Rattle.request.specs.Request.{constant_of_field, option_of}
use Rattle.constantform.specs.Leaves.{good_part}
use Rattle.reply.specs.Verdicts.{beyond}
use Rattle.constantform.specs.Form.{bad_request, judge_constant}
use Rattle.optionform.specs.Form.{next_part, parts_from, last_field, judge_last, after_name, judge_option}
use Rattle.optionform.specs.Fine.{good_parts, good_option}
use Rattle.optionform.specs.inner.Parts.{LastConstant, OptionParts}
use Rattle.optionform.proofs.OptionLaws.{option-other}
use Rattle.constantform.proofs.FineConstants.{FineConstant}
use Rattle.constantform.proofs.FineConstants.{constant-fine}
use Rattle.field.specs.declared.Field.{Field}
use Rattle.reply.specs.declared.Refusal.{Refusal}

-- ---- the parts ps of a name, n before them: they end at y, which is where the verdict says, x
pub record PartsTo (s : List ℕ) (n x : ℕ) (ps : List Part) (y : ℕ) : Type 0 where
  pub good : good_parts s ps ≡ true
  pub few : n + length ps ≤ most_parts
  pub ends : x ≡ y

module _ (s : List ℕ) (x : ℕ) where
  no-parts : (n y : ℕ) → n ≤ most_parts → ◌≡◌ {A = Result ℕ Refusal} (Ok y) (Ok x) → PartsTo s n x [] y
  no-parts n y h p = record { good = refl; few = omega arith; ends = cc }

  part-more : (n : ℕ) (p : Part) (ps : List Part) (y : ℕ) (v : Result ℕ Refusal) → (n + 1 ≤ most_parts → v ≡ Ok x → PartsTo s (n + 1) x ps y)
      → (b : Bool) → ltb n most_parts ≡ b → (c : Bool) → good_part p.extension (text s p.name) ≡ c
      → ◌≡◌ {A = Result ℕ Refusal} (elim b [ true ↦ elim c [ true ↦ v | false ↦ Err BadRequest ] | false ↦ Err BeyondLimit ]) (Ok x)
      → PartsTo s n x (p ∷ ps) y
  part-more n p ps y v more true l true g q =
      let i = more (omega (arith, ltb-true n most_parts l)) q in
      record { good = rw (g, i.good); few = omega (arith, i.few); ends = i.ends }
  part-more n p ps y v more true l false g q = never cc
  part-more n p ps y v more false l c g q = never cc

  part-fine : (n at : ℕ) → n ≤ most_parts → (ps : List Part) (y : ℕ) (v : Result ℕ Refusal)
      → (n + 1 ≤ most_parts → v ≡ Ok x → PartsTo s (n + 1) x ps y)
      → (r : Option Part) → next_part s n at r v ≡ Ok x → PartsTo s n x (leading r ps) (further r at y)
  part-fine n at h ps y v more None q = no-parts n at h q
  part-fine n at h ps y v more (Some p) q =
      part-more n p ps y v more (ltb n most_parts) refl (good_part p.extension (text s p.name)) refl q

  pub parts-fine : (w : Walk) (n at : ℕ) → n ≤ most_parts → parts_from s n at w ≡ Ok x → PartsTo s n x (parts_in w) (after_parts at w)
  parts-fine done n at h p = no-parts n at h p
  parts-fine cut n at h p = no-parts n at h p
  parts-fine (step t a e w) n at h p =
      part-fine n at h (parts_in w) (after_parts e w) (parts_from s (n + 1) e w) (parts-fine w (n + 1) e) (part_of t a e) p

-- parts that end further on are there
pub parts-some : (w : Walk) (at : ℕ) → (after_parts at w ≡ at → ⊥) → 1 ≤ length (parts_in w)
parts-some done at n = absurd (n refl)
parts-some cut at n = absurd (n refl)
parts-some (step t a e w) at n = go (part_of t a e) n
  where
    go : (r : Option Part) → (further r at (after_parts e w) ≡ at → ⊥) → 1 ≤ length (leading r (parts_in w))
    go None n = absurd (n refl)
    go (Some p) n = omega arith

-- what stands after the first of the fields up to a place are the fields from its end on
module _ (s : List ℕ) (end at t a e : ℕ) (w : Walk) (p : walk s at end ≡ step t a e w) where
  walk_field : at < end → (f : Option Field) → f ≡ field_at s at end → walk s e end ≡ w
  walk_field h None q = absurd (let z = sym (walk-cut s at end h None q refl) ∙ p in let y : ◌≡◌ {A = ℕ} 0 1 = cc in omega arith)
  walk_field h (Some found) q = let z = sym (walk_step s at end h (Some found) q found refl) ∙ p in cc

  walk-next : walk s e end ≡ w
  walk-next = go (ltb at end) refl
    where
      go : (b : Bool) → ltb at end ≡ b → walk s e end ≡ w
      go true l = walk_field (ltb-true at end l) (field_at s at end) refl
      go false l =
          absurd (let z = sym (walk-done s at end (ltb-false at end l)) ∙ p in let y : ◌≡◌ {A = ℕ} 0 1 = cc in omega arith)

-- every field is a part or stands where the parts end, or after that
parts-rest : (s : List ℕ) (end : ℕ) (w : Walk) (at : ℕ) → walk s at end ≡ w
    → length (tags_in w) ≡ length (parts_in w) + length (tags_in (walk s (after_parts at w) end))
parts-rest s end done at p = rw p refl
parts-rest s end cut at p = rw p refl
parts-rest s end (step t a e w) at p = go (parts-rest s end w e (walk-next s end at t a e w p)) (part_of t a e)
  where
    go : length (tags_in w) ≡ length (parts_in w) + length (tags_in (walk s (after_parts e w) end)) → (r : Option Part)
        → suc (length (tags_in w)) ≡ length (leading r (parts_in w)) + length (tags_in (walk s (further r at (after_parts e w)) end))
    go after None = rw p (omega arith)
    go after (Some x) = omega (arith, after)

-- ---- one option: parts that end at a place, and a constant from there to the end
record Named (s : List ℕ) (a e : ℕ) : Type 0 where
  place : ℕ
  parts : PartsTo s 0 place (parts_in (walk s a e)) (after_parts a (walk s a e))
  some : place ≡ a → ⊥
  last : judge_last s place e ≡ fine

pub option-tagged : (s : List ℕ) (i t a e : ℕ) → judge_option s i t a e ≡ fine → t ≡ option_tag
option-tagged s i t a e p = elim (ℕ_discrete t option_tag) [
  | yes y ↦ y
  | no n ↦ absurd (refused-fine BadRequest (option-other s i t a e n ∙ p))
]

last-opened : (s : List ℕ) (x e : ℕ) → judge_last s x e ≡ fine → LastConstant s x e
unfolding judge_last
last-opened s x e = go (field_at s x e) refl
  where
    go : (f : Option Field) → field_at s x e ≡ f → last_field s e f ≡ fine → LastConstant s x e
    go None q p = absurd (refused-fine BadRequest p)
    go (Some here) q p =
        let judge = judge_constant most_constants s here.tag here.from here.to in
        let ends = judged BadRequest (eqb here.to e) in
        record {
          tag = here.tag;
          from = here.from;
          to = here.to;
          whole = q;
          fine = first-fine-front judge ends p;
          ends = eqb-true here.to e (judged-fine BadRequest (eqb here.to e) (first-fine-rest judge ends p));
        }

last-good : (s : List ℕ) (x e : ℕ) → e ≤ length s → (l : LastConstant s x e)
    → FineConstant s unnamed l.tag none (constant_of_field s (field_at s x e))
last-good s x e h l =
    rw l.whole (constant-fine most_constants s unnamed refl l.tag l.from l.to none (omega (arith, l.ends)) l.fine)

last-alone : (s : List ℕ) (x e : ℕ) → LastConstant s x e → length (tags_in (walk s x e)) ≡ 1
last-alone s x e l =
    let b : Bounds x e l.from l.to = field-bounds s x e (field_at s x e) refl (field l.tag l.from l.to) l.whole in
    let h : x < e = omega (arith, b.starts, b.ordered, l.ends) in
    rw (
      walk_step s x e h (field_at s x e) refl (field l.tag l.from l.to) l.whole,
      walk-done s l.to e (omega (arith, l.ends)),
    )

module _ (s : List ℕ) (a e : ℕ) where
  name-opened : (v : Result ℕ Refusal) → v ≡ parts_from s 0 a (walk s a e) → after_name s a e v ≡ fine → Named s a e
  name-opened (Err w) q p = absurd (refused-fine w p)
  name-opened (Ok x) q p = go (eqb x a) refl p
    where
      go : (b : Bool) → eqb x a ≡ b → elim b [ true ↦ bad_request | false ↦ judge_last s x e ] ≡ fine → Named s a e
      go true y p = absurd (refused-fine BadRequest p)
      go false y p = record {
        place = x;
        parts = parts-fine s x (walk s a e) 0 a (omega arith) (sym q);
        some = eqb-false x a y;
        last = p;
      }

  option-opened : (i : ℕ) → judge_option s i option_tag a e ≡ fine → Named s a e
  unfolding judge_option
  option-opened i = go (ltb i most_options)
    where
      go : (b : Bool) → elim b [ true ↦ after_name s a e (parts_from s 0 a (walk s a e)) | false ↦ beyond ] ≡ fine → Named s a e
      go true p = name-opened (parts_from s 0 a (walk s a e)) refl p
      go false p = absurd (refused-fine BeyondLimit p)

  pub option-good : (i : ℕ) → e ≤ length s → judge_option s i option_tag a e ≡ fine → good_option s (option_of s a e) ≡ true
  unfolding option_of
  option-good i h p =
      let o = option-opened i p in
      let f = o.parts in
      let l = last-opened s o.place e o.last in
      let c =
      subst (λ (z : ℕ). FineConstant s unnamed l.tag none (constant_of_field s (field_at s z e))) f.ends
      (last-good s o.place e h l) in
      let n = length (parts_in (walk s a e)) in
      rw (
        le-leb 1 n (parts-some (walk s a e) a (λ z. o.some (f.ends ∙ z))),
        le-leb n most_parts (omega (arith, f.few)),
        f.good,
        c.whole,
        c.good refl,
      )

pub option-few : (s : List ℕ) (i a e : ℕ) → judge_option s i option_tag a e ≡ fine → i < most_options
unfolding judge_option
option-few s i a e = go (ltb i most_options) refl
  where
    go : (b : Bool) → ltb i most_options ≡ b
        → elim b [ true ↦ after_name s a e (parts_from s 0 a (walk s a e)) | false ↦ beyond ] ≡ fine → i < most_options
    go true l q = ltb-true i most_options l
    go false l q = absurd (refused-fine BeyondLimit q)

-- ==== the statements
-- Where the parts of a fine option end, a fine constant stands, and it is the last.
pub fine-option-constant : (s : List ℕ) (i t a e : ℕ) → judge_option s i t a e ≡ fine → (x : ℕ) → x ≡ after_parts a (walk s a e)
    → LastConstant s x e
fine-option-constant s i t a e p x q =
    let o = option-opened s a e i (rw (option-tagged s i t a e p) at p) in
    subst (λ (z : ℕ). LastConstant s z e) (o.parts.ends ∙ sym q) (last-opened s o.place e o.last)

-- Every field of a fine option but its last, the constant, is a part of it in the tree.
pub fine-parts : (s : List ℕ) (i t a e : ℕ) → judge_option s i t a e ≡ fine
    → length (tags_in (walk s a e)) ≡ length (option_of s a e).parts + 1
unfolding option_of
fine-parts s i t a e p =
    let x = after_parts a (walk s a e) in
    let l = fine-option-constant s i t a e p x refl in
    parts-rest s e (walk s a e) a refl ∙ ap (λ (n : ℕ). length (parts_in (walk s a e)) + n) (last-alone s x e l)

-- A fine option has a part.
pub fine-option-some : (s : List ℕ) (i t a e : ℕ) → judge_option s i t a e ≡ fine → 1 ≤ length (parts_in (walk s a e))
fine-option-some s i t a e p =
    let o = option-opened s a e i (rw (option-tagged s i t a e p) at p) in
    parts-some (walk s a e) a (λ z. o.some (o.parts.ends ∙ z))

-- From where a fine option starts stand good parts, and then its constant: PartsLaws.antt goes on from part to part.
pub fine-option-parts : (s : List ℕ) (i t a e : ℕ) → judge_option s i t a e ≡ fine → OptionParts s a e
fine-option-parts s i t a e p =
    let o = option-opened s a e i (rw (option-tagged s i t a e p) at p) in
    record { good = o.parts.good; follows = fine-option-constant s i t a e p (after_parts a (walk s a e)) refl }
