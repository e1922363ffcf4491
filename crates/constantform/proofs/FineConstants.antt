-- What a fine verdict says of the tree of constants, from the leaves up: of payloads inside the bytes, of values, and of constants at
-- every depth.
-- Assumes nothing.
use Rattle.std.specs.Prelude.{◌≡◌, refl, Bool, true, false, ◌&&◌, List, ◌∷◌, map, ℕ, zero, suc, ◌+◌, ◌-◌, ◌*◌, ◌^◌, ◌≤◌, eqb, ltb, leb, length, get_or, Some, Option}
use Rattle.basis.specs.Kit.{sym, ap, ◌∙◌}
use Rattle.basis.proofs.Kit.{arith, ne_eqb}
use mathlib.Core.Bool.{false≢true}
use native.Mathlib.Decide.{ℕ_discrete}
use borrow.Author.Tests.{eqb-true, leb-true}
use lib.Ieee.{binary64, of_bits, nan_bits}
use Rattle.octets.specs.Octets.{part, big_at}
use Rattle.octets.proofs.Parts.{part-cons, part_length}
use Rattle.reply.specs.declared.Refusal.TheVariants.{BadRequest, BeyondLimit}
use Rattle.reply.specs.Verdicts.{first_fault, judged, Verdict, fine}
use Rattle.reply.proofs.VerdictLaws.{refused-fine, first-fine-front, first-fine-rest, judged-fine}
use Rattle.field.specs.Leaf.{span}
use Rattle.field.specs.Walk.{Walk, done, cut, step, walk, tags_in}
use Rattle.form.specs.Each.{each}
use Rattle.field.proofs.WalkLaws.{walk-holds}
use Rattle.request.specs.declared.constant.Constant.{Constant}
use Rattle.request.specs.declared.constant.Constant.TheVariants.{Bool as BoolOf, Integer, Float, NotANumber}
use Rattle.request.specs.declared.constant.Constant.TheVariants.{Text, Ident}
use Rattle.request.specs.Table.{bool_tag, unsigned_tag, signed_tag, float_tag, string_tag, ident_tag, message_constant_tag, list_tag}
use Rattle.request.specs.Table.{pair_field_tag, pair_extension_tag, pair_url_tag}
use Rattle.request.specs.Constant.{integer_of, float_of, is_pair_name, constant_of}
use Rattle.request.specs.Tree.{PairName, unnamed, Constants, none, scalar, ConstantReader, pair_name_of, elements_in, pairs_in}
use Rattle.request.specs.Tree.{grown, if_held, constant_in}
use Rattle.request.proofs.ConstantLaws.{bool_is, number-unsigned, number-signed, number-float}
use Rattle.constantform.specs.Leaves.{is_constant, is_bool, good_scalar, good_pair_name}
use Rattle.reply.specs.Verdicts.{beyond}
use Rattle.constantform.specs.Form.{bad_request, pairs_of, constant_with, judge_constant}
use Rattle.constantform.specs.Fine.{good_name, good_value, good_constants, count_of, kind_of, constant_tag, with_name, constant_tags}
use Rattle.constantform.proofs.LeafLaws.{scalar-other, pair-name-other}

-- ---- the payloads of fields that lie inside the bytes
abbrev pub Within : List ℕ → Walk → Type 0
Within s done = Unit {0}
Within s cut = Unit {0}
Within s (step t a e w) = (e ≤ length s) × Within s w

pub walk-within : (s : List ℕ) (end : ℕ) → end ≤ length s → (at : ℕ) → Within s (walk s at end)
walk-within s end h =
    walk-holds s end (λ _ w. Within s w) (λ _. tt) (λ _. tt) λ _ t a e w b k. (omega (arith, b.inside), k)

-- ---- a value of the tag t that is no message and no list, and is good
record Plain (s : List ℕ) (t : ℕ) (c : Constant) : Type 0 where
  good : good_value s c ≡ true
  tag : constant_tag c ≡ kind_of t
  alone : (inner : ConstantReader) (l : PairName) (rest : Constants) → grown inner s l rest c ≡ scalar l c rest

record PlainAt (s : List ℕ) (t : ℕ) (r : Option Constant) : Type 0 where
  value : Constant
  held : r ≡ Some value
  plain : Plain s t value

module _ (s : List ℕ) where
  signed-value : (b : ℕ) → Plain s signed_tag (integer_of b)
  unfolding integer_of
  signed-value b = go (ltb b (2 ^ 63))
    where
      go : (x : Bool) → Plain s signed_tag (elim x [ true ↦ Integer false b | false ↦ Integer true (2 ^ 64 - b) ])
      go true = record { good = refl; tag = refl; alone = λ inner l rest. refl }
      go false = record { good = refl; tag = refl; alone = λ inner l rest. refl }

  float_value : (b : ℕ) → Plain s float_tag (float_of b)
  unfolding float_of
  float_value b = go (nan_bits binary64 b)
    where
      go : (x : Bool) → Plain s float_tag (elim x [ true ↦ NotANumber b | false ↦ Float (of_bits binary64 b) ])
      go true = record { good = refl; tag = refl; alone = λ inner l rest. refl }
      go false = record { good = refl; tag = refl; alone = λ inner l rest. refl }

-- a tag is one of the six of scalars, or another
by_scalar : (t : ℕ) (P : ℕ → Type 0) → P bool_tag → P string_tag → P ident_tag → P unsigned_tag → P signed_tag → P float_tag
    → ((t ≡ bool_tag → ⊥) → (t ≡ string_tag → ⊥) → (t ≡ ident_tag → ⊥)
    → (t ≡ unsigned_tag → ⊥) → (t ≡ signed_tag → ⊥) → (t ≡ float_tag → ⊥) → P t)
    → P t
by_scalar t P b s i u m f o = elim (ℕ_discrete t bool_tag) [
  | yes y ↦ rw y b
  | no b' ↦ elim (ℕ_discrete t string_tag) [
    | yes y ↦ rw y s
    | no s' ↦ elim (ℕ_discrete t ident_tag) [
      | yes y ↦ rw y i
      | no i' ↦ elim (ℕ_discrete t unsigned_tag) [
        | yes y ↦ rw y u
        | no u' ↦ elim (ℕ_discrete t signed_tag) [
          | yes y ↦ rw y m
          | no m' ↦ elim (ℕ_discrete t float_tag) [ yes y ↦ rw y f | no f' ↦ o b' s' i' u' m' f' ]
        ]
      ]
    ]
  ]
]

module _ (s : List ℕ) (a e : ℕ) (h : e ≤ length s) where
  bool-plain : is_bool (part s a e) ≡ true → PlainAt s bool_tag (constant_of s bool_tag a e)
  unfolding is_bool constant_of
  bool-plain = go (eqb (length (part s a e)) 1) refl (leb (get_or (part s a e) 0 0) 1) refl
    where
      go : (x : Bool) → eqb (length (part s a e)) 1 ≡ x → (y : Bool) → leb (get_or (part s a e) 0 0) 1 ≡ y → (x && y) ≡ true
          → PlainAt s bool_tag (constant_of s bool_tag a e)
      go false p y q k = absurd (false≢true k)
      go true p false q k = absurd (false≢true k)
      go true p true q k =
          let n : e - a ≡ 1 = sym (part_length s a e h) ∙ eqb-true (length (part s a e)) 1 p in
          let b : get_or s a 0 ≤ 1 = leb-true (get_or s a 0) 1 (rw (part-cons s a e (omega arith) h) at q) in
          record {
            value = BoolOf (eqb (get_or s a 0) 1);
            held = sym (bool_is s a e n b);
            plain = record { good = refl; tag = refl; alone = λ inner l rest. refl };
          }

  module _ (n : eqb (length (part s a e)) 8 ≡ true) where
    eight : e - a ≡ 8
    eight = sym (part_length s a e h) ∙ eqb-true (length (part s a e)) 8 n

    unsigned-plain : PlainAt s unsigned_tag (constant_of s unsigned_tag a e)
    unfolding constant_of
    unsigned-plain =
        record {
          value = Integer false (big_at 8 s a);
          held = sym (number-unsigned s unsigned_tag a e eight (big_at 8 s a) refl refl);
          plain = record { good = refl; tag = refl; alone = λ inner l rest. refl };
        }

    signed-plain : PlainAt s signed_tag (constant_of s signed_tag a e)
    unfolding constant_of
    signed-plain =
        record {
          value = integer_of (big_at 8 s a);
          held = sym (number-signed s signed_tag a e eight (big_at 8 s a) refl (λ x. omega arith) refl (integer_of (big_at 8 s a)) refl);
          plain = signed-value s (big_at 8 s a);
        }

    float_plain : PlainAt s float_tag (constant_of s float_tag a e)
    unfolding constant_of
    float_plain =
        record {
          value = float_of (big_at 8 s a);
          held =
              sym (number-float s float_tag a e eight (big_at 8 s a) refl (λ x. omega arith) (λ x. omega arith) refl
              (float_of (big_at 8 s a)) refl);
          plain = float_value s (big_at 8 s a);
        }

  scalar-plain : (t : ℕ) → good_scalar t (part s a e) ≡ true → PlainAt s t (constant_of s t a e)
  unfolding good_scalar constant_of
  scalar-plain t =
      by_scalar t (λ t. good_scalar t (part s a e) ≡ true → PlainAt s t (constant_of s t a e))
      bool-plain
      (λ p. record { value = Text (span a e); held = refl; plain = record { good = refl; tag = refl; alone = λ inner l rest. refl } })
      (λ p. record { value = Ident (span a e); held = refl; plain = record { good = p; tag = refl; alone = λ inner l rest. refl } })
      unsigned-plain
      signed-plain
      float_plain
      (λ b x i u m f p. absurd (false≢true (scalar-other t (part s a e) b x i
      (simp (ne_eqb t unsigned_tag u, ne_eqb t signed_tag m, ne_eqb t float_tag f)) ∙ p)))

-- ---- one constant: it is in front of what follows it, and nothing in it is bad
pub record FineConstant (s : List ℕ) (l : PairName) (t : ℕ) (rest c : Constants) : Type 0 where
  pub good : good_constants s rest ≡ true → good_constants s c ≡ true
  pub whole : count_of c ≡ 1 + count_of rest
  pub tags : constant_tags c ≡ with_name l (kind_of t ∷ constant_tags rest)

module _ (s : List ℕ) (l : PairName) (named : good_name s l ≡ true) (rest : Constants) (inner : ConstantReader) where
  plain-fine : (t : ℕ) (r : Option Constant) → PlainAt s t r → FineConstant s l t rest (if_held inner s l rest r)
  plain-fine t r x =
      rw (x.held, x.plain.alone inner l rest)
      record {
        good = λ h. rw (named, x.plain.good, h);
        whole = refl;
        tags = ap (λ (k : ℕ). with_name l (k ∷ constant_tags rest)) x.plain.tag;
      }

-- ---- elements and pairs, where the constants among them are known to be fine
pub record FineElements (s : List ℕ) (w : Walk) (c : Constants) : Type 0 where
  pub good : good_constants s c ≡ true
  pub whole : count_of c ≡ length (tags_in w)
  pub tags : constant_tags c ≡ map kind_of (tags_in w)

pub record FinePairs (s : List ℕ) (w : Walk) (c : Constants) : Type 0 where
  pub good : good_constants s c ≡ true
  pub whole : 2 * count_of c ≡ length (tags_in w)
  pub tags : constant_tags c ≡ map kind_of (tags_in w)

abbrev pub FineAt : ℕ → List ℕ → Type 0
FineAt d s = (l : PairName) → good_name s l ≡ true → (t a e : ℕ) (rest : Constants) → e ≤ length s → judge_constant d s t a e ≡ fine
    → FineConstant s l t rest (constant_in d s l t a e rest)

-- a tag is one of the three of a pair's name, or another
by_name : (t : ℕ) (P : ℕ → Type 0) → P pair_field_tag → P pair_extension_tag → P pair_url_tag
    → ((t ≡ pair_field_tag → ⊥) → (t ≡ pair_extension_tag → ⊥) → (t ≡ pair_url_tag → ⊥) → P t) → P t
by_name t P f x u o = elim (ℕ_discrete t pair_field_tag) [
  | yes y ↦ rw y f
  | no f' ↦ elim (ℕ_discrete t pair_extension_tag) [
    | yes y ↦ rw y x
    | no x' ↦ elim (ℕ_discrete t pair_url_tag) [ yes y ↦ rw y u | no u' ↦ o f' x' u' ]
  ]
]

record Named (s : List ℕ) (t a e : ℕ) : Type 0 where
  is : is_pair_name t ≡ true
  good : good_name s (pair_name_of t (span a e)) ≡ true
  tag : (r : List ℕ) → with_name (pair_name_of t (span a e)) r ≡ kind_of t ∷ r

pair-named : (s : List ℕ) (t a e : ℕ) → good_pair_name t (part s a e) ≡ true → Named s t a e
unfolding good_pair_name is_pair_name
pair-named s t a e =
    by_name t (λ t. good_pair_name t (part s a e) ≡ true → Named s t a e)
    (λ p. record { is = refl; good = p; tag = λ r. refl })
    (λ p. record { is = refl; good = p; tag = λ r. refl })
    (λ p. record { is = refl; good = p; tag = λ r. refl })
    (λ f x u p. absurd (false≢true (pair-name-other t (part s a e) f x u ∙ p)))

pair-first : (inner : ConstantReader) (t a e k b f : ℕ) (w : Walk) → is_pair_name t ≡ true
    → pairs_in inner (step t a e (step k b f w)) ≡ inner (pair_name_of t (span a e)) k b f (pairs_in inner w)
pair-first inner t a e k b f w = go (is_pair_name t)
  where
    first-pair : Constants
    first-pair = inner (pair_name_of t (span a e)) k b f (pairs_in inner w)

    go : (x : Bool) → x ≡ true → elim x [ true ↦ first-pair | false ↦ none ] ≡ first-pair
    go true y = refl
    go false y = absurd (false≢true y)

module _ (d : ℕ) (s : List ℕ) (inside : FineAt d s) where
  elements-with : (w : Walk) → Within s w → each BadRequest (judge_constant d s) w ≡ fine → FineElements s w (elements_in (constant_in d s) w)
  elements-with done i p = record { good = refl; whole = refl; tags = refl }
  elements-with cut i p = absurd (refused-fine BadRequest p)
  elements-with (step t a e w) i p =
      let judge = judge_constant d s in
      let front = first-fine-front (judge t a e) (each BadRequest judge w) p in
      let rest = elements-with w i.1 (first-fine-rest (judge t a e) (each BadRequest judge w) p) in
      let here = inside unnamed refl t a e (elements_in (constant_in d s) w) i.0 front in
      record {
        good = here.good rest.good;
        whole = here.whole ∙ omega (arith, rest.whole);
        tags = here.tags ∙ ap (λ (r : List ℕ). kind_of t ∷ r) rest.tags;
      }

  pairs-with : (w : Walk) → Within s w → pairs_of (judge_constant d s) s w ≡ fine → FinePairs s w (pairs_in (constant_in d s) w)
  pairs-with done i p = record { good = refl; whole = refl; tags = refl }
  pairs-with cut i p = absurd (refused-fine BadRequest p)
  pairs-with (step t a e done) i p = absurd (refused-fine BadRequest p)
  pairs-with (step t a e cut) i p = absurd (refused-fine BadRequest p)
  pairs-with (step t a e (step k b f w)) i p =
      let judge = judge_constant d s in
      let name = judged BadRequest (good_pair_name t (part s a e)) in
      let after = first_fault (judge k b f) (pairs_of judge s w) in
      let n = pair-named s t a e (judged-fine BadRequest (good_pair_name t (part s a e)) (first-fine-front name after p)) in
      let p' = first-fine-rest name after p in
      let front = first-fine-front (judge k b f) (pairs_of judge s w) p' in
      let rest = pairs-with w i.1.1 (first-fine-rest (judge k b f) (pairs_of judge s w) p') in
      let here = inside (pair_name_of t (span a e)) n.good k b f (pairs_in (constant_in d s) w) i.1.0 front in
      rw (pair-first (constant_in d s) t a e k b f w n.is)
      record {
        good = here.good rest.good;
        whole = omega (arith, here.whole, rest.whole);
        tags =
            here.tags ∙ n.tag (kind_of k ∷ constant_tags (pairs_in (constant_in d s) w))
            ∙ ap (λ (r : List ℕ). kind_of t ∷ kind_of k ∷ r) rest.tags;
      }

-- ---- constants, with d levels left
module _ (d : ℕ) (s : List ℕ) (inside : FineAt d s) (l : PairName) (named : good_name s l ≡ true) (a e : ℕ) (rest : Constants)
    (h : e ≤ length s) where
  constant-with : (t : ℕ) → constant_with (judge_constant d s) s t a e ≡ fine → FineConstant s l t rest (constant_in (suc d) s l t a e rest)
  unfolding constant_of
  constant-with t p = elim (ℕ_discrete t message_constant_tag) [
    | yes y ↦ rw y (at-message (rw y at p))
    | no m ↦ elim (ℕ_discrete t list_tag) [
      | yes y ↦ rw y (at-list (rw y at p))
      | no n ↦
          plain-fine s l named rest (constant_in d s) t (constant_of s t a e)
          (scalar-plain s a e h t (judged-fine BadRequest (good_scalar t (part s a e))
          (simp (constant_with, ne_eqb t message_constant_tag m, ne_eqb t list_tag n) at p)))
    ]
  ]
    where
      at-message : pairs_of (judge_constant d s) s (walk s a e) ≡ fine
          → FineConstant s l message_constant_tag rest (constant_in (suc d) s l message_constant_tag a e rest)
      at-message q =
          let i = pairs-with d s inside (walk s a e) (walk-within s e h a) q in
          record { good = λ r. rw (named, i.good, r); whole = refl; tags = refl }

      at-list : each BadRequest (judge_constant d s) (walk s a e) ≡ fine
          → FineConstant s l list_tag rest (constant_in (suc d) s l list_tag a e rest)
      at-list q =
          let i = elements-with d s inside (walk s a e) (walk-within s e h a) q in
          record { good = λ r. rw (named, i.good, r); whole = refl; tags = refl }

pub constant-opened : (b : Bool) (v : Verdict) → elim b [ true ↦ v | false ↦ bad_request ] ≡ fine → v ≡ fine
constant-opened true v p = p
constant-opened false v p = absurd (refused-fine BadRequest p)

pub constant-fine : (d : ℕ) (s : List ℕ) → FineAt d s
constant-fine zero s l named t a e rest h p = absurd (refused-fine BeyondLimit (constant-opened (is_constant t) beyond p))
constant-fine (suc d) s l named t a e rest h p =
    constant-with d s (constant-fine d s) l named a e rest h t
    (constant-opened (is_constant t) (constant_with (judge_constant d s) s t a e) p)

pub elements-fine : (d : ℕ) (s : List ℕ) (w : Walk) → Within s w → each BadRequest (judge_constant d s) w ≡ fine
    → FineElements s w (elements_in (constant_in d s) w)
elements-fine d s = elements-with d s (constant-fine d s)

pub pairs-fine : (d : ℕ) (s : List ℕ) (w : Walk) → Within s w → pairs_of (judge_constant d s) s w ≡ fine
    → FinePairs s w (pairs_in (constant_in d s) w)
pairs-fine d s = pairs-with d s (constant-fine d s)
