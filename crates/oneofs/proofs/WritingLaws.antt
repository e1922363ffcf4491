-- Words of fields: the loop of `put_fields`.
--
--      Held numbering reals r s group next-real next-synthetic member <-> the indices of the next oneof of each kind, and the word of a
--                                                                         member of the group, after r real and s synthetic oneofs
--   Numbering numbering reals ws l l' next-real next-synthetic member n i <-> the first i words are read, and n written over l, now l'
--
-- Assumes nothing.
use Rattle.std.specs.Prelude.{◌≡◌, refl, List, [], ◌∷◌, ℕ, suc, ◌+◌, ◌≤◌, ◌<◌, length, get_or, drop, None, Some, Err, Ok}
use Rattle.basis.specs.Kit.{sym, ap, ◌∙◌, sets}
use Rattle.basis.proofs.Kit.{arith, add-one}
use lib.ListN.{drop_of_length-le}
use Rattle.limits.specs.Figures.{most_words}
use Rattle.reply.specs.declared.Refusal.TheVariants.{BadRequest}
use Rattle.reply.specs.declared.Cause.{Cause}
use Rattle.reply.specs.Reply.{bare}
use Rattle.reply.specs.Outcome.{Outcome, refused, refuse, push}
use Rattle.emit.specs.inner.Puts.{Puts}
use Rattle.emit.proofs.WriteLaws.{Front, front-start, front-put, front-pass, front_length, front-refused, front-done}
use Rattle.oneofs.specs.Fields.{real, synthetic, oneof, Group, groups_after, groups, index_of, word_of, numbered}
use Rattle.oneofs.proofs.IndexLaws.{grows}
use Rattle.oneofs.proofs.CountingLaws.{word-here}
use Rattle.oneofs.proofs.GroupLaws.{words, words-plain, words-optional, words-opens, words-other, words-stray, words-member}

-- ---- the counters
pub record Held (numbering reals r s : ℕ) (group : Group) (next-real next-synthetic member : ℕ) : Type 0 where
  pub real-is : next-real ≡ index_of numbering reals (oneof real r s)
  pub synthetic-is : next-synthetic ≡ index_of numbering reals (oneof synthetic r s)
  pub member_is : member ≡ word_of numbering reals group

module _ (numbering reals : ℕ) where
  held_start : (first : ℕ) → first ≡ index_of numbering reals (oneof synthetic 0 0) → Held numbering reals 0 0 None 0 first 0
  held_start first e = record { real-is = omega (arith, (grows numbering reals 0 0).real-few); synthetic-is = e; member_is = refl }

  module _
      (r s : ℕ) (group : Group) (next-real next-synthetic member : ℕ)
      (k : Held numbering reals r s group next-real next-synthetic member) where
    held_plain : Held numbering reals r s None next-real next-synthetic 0
    held_plain = record { real-is = k.real-is; synthetic-is = k.synthetic-is; member_is = refl }

    module _ (step : ℕ) (t : step ≡ index_of numbering 0 (oneof real 0 1)) where
      held-optional : Held numbering reals r (suc s) None (next-real + step) (next-synthetic + 1) 0
      held-optional = record {
        real-is = rw (k.real-is, t) (grows numbering reals r s).real-synthetic;
        synthetic-is = rw k.synthetic-is (grows numbering reals r s).synthetic-synthetic;
        member_is = refl;
      }

      held-opens : (member' : ℕ) → member' ≡ next-real + 1
          → Held numbering reals (suc r) s (Some (oneof real r s)) (next-real + 1) (next-synthetic + step) member'
      held-opens member' e = record {
        real-is = rw k.real-is (grows numbering reals r s).real-real;
        synthetic-is = rw (k.synthetic-is, t) (grows numbering reals r s).synthetic-real;
        member_is = e ∙ ap (λ x. x + 1) k.real-is ∙ add-one _;
      }

-- ---- the loop
pub record Numbering (numbering reals : ℕ) (ws l l' : List ℕ) (next-real next-synthetic member n i : ℕ) : Type 0 where
  pub r : ℕ
  pub s : ℕ
  pub group : Group
  pub held : Held numbering reals r s group next-real next-synthetic member
  pub most : length ws ≤ most_words
  pub reals-most : reals ≤ most_words
  pub reached : i ≤ length ws
  pub few : n ≤ i
  pub counted : r + s ≤ i
  pub real-few : next-real ≤ i
  pub synthetic-few : next-synthetic ≤ reals + i
  pub laid : Front (numbered numbering reals (groups ws)) (words numbering reals r s group (drop i ws)) 0 l l' n

module _ (numbering reals : ℕ) (ws l : List ℕ) where
  pub numbering_start : (first : ℕ) → first ≡ index_of numbering reals (oneof synthetic 0 0) → length ws ≤ most_words → reals ≤ most_words
      → Numbering numbering reals ws l l 0 first 0 0 0
  numbering_start first e h h' = record {
    r = 0;
    s = 0;
    group = None;
    held = held_start numbering reals first e;
    most = h;
    reals-most = h';
    reached = omega arith;
    few = omega arith;
    counted = omega arith;
    real-few = omega arith;
    synthetic-few = omega (arith, e, (grows numbering reals 0 0).synthetic-few);
    laid = front-start _ 0 l;
  }

  module _
      (m : List ℕ) (next-real next-synthetic member n i : ℕ)
      (u : Numbering numbering reals ws l m next-real next-synthetic member n i) where
    pub numbering-length : length m ≡ length l
    numbering-length = front_length _ _ 0 l m n u.laid

    pub numbering-done : length ws ≤ i → Puts (numbered numbering reals (groups ws)) 0 l m (Ok n)
    unfolding groups_after
    numbering-done h = front-done _ _ 0 l m n u.laid (rw (drop_of_length-le ws h))

    module _ (h : i < length ws) where
      abbrev at-word : Outcome ℕ
      at-word = words numbering reals u.r u.s u.group (get_or ws i 0 ∷ drop (i + 1) ws)

      here : words numbering reals u.r u.s u.group (drop i ws) ≡ at-word
      here = ap (words numbering reals u.r u.s u.group) (word-here ws i h)

      refused-here : at-word ≡ refuse BadRequest → (c : Cause) → c ≡ bare BadRequest
          → Puts (numbered numbering reals (groups ws)) 0 l m (Err c)
      refused-here e c q = front-refused _ _ 0 l m n u.laid c (here ∙ e ∙ ap refused (sym q))

      -- the next turn, from the counters that it has: a word is written, or none
      module _
          (r' s' : ℕ) (group' : Group) (real' synthetic' member' : ℕ) (k : Held numbering reals r' s' group' real' synthetic' member')
          (c : r' + s' ≤ u.r + u.s + 1) where
        turn : (l' : List ℕ) (n' : ℕ) → n' ≤ n + 1
            → Front (numbered numbering reals (groups ws)) (words numbering reals r' s' group' (drop (i + 1) ws)) 0 l l' n'
            → Numbering numbering reals ws l l' real' synthetic' member' n' (i + 1)
        turn l' n' f w =
            let counted' : r' + s' ≤ i + 1 = omega (arith, u.counted) in
            record {
              r = r';
              s = s';
              group = group';
              held = k;
              most = u.most;
              reals-most = u.reals-most;
              reached = omega arith;
              few = omega (arith, u.few);
              counted = counted';
              real-few = omega (arith, k.real-is, (grows numbering reals r' s').real-few);
              synthetic-few = omega (arith, k.synthetic-is, (grows numbering reals r' s').synthetic-few);
              laid = w;
            }

        wrote : (x : ℕ) → at-word ≡ push (x ∷ []) (words numbering reals r' s' group' (drop (i + 1) ws)) → (l' : List ℕ)
            → l' ≡ sets m n (x ∷ []) → Numbering numbering reals ws l l' real' synthetic' member' (n + 1) (i + 1)
        wrote x e l' p = turn l' (n + 1) (omega arith) (front-put _ _ 0 l m n u.laid (x ∷ []) _ l' (here ∙ e) p)

        passed : at-word ≡ words numbering reals r' s' group' (drop (i + 1) ws)
            → Numbering numbering reals ws l m real' synthetic' member' n (i + 1)
        passed e = turn m n (omega arith) (front-pass _ _ 0 l m n u.laid _ (here ∙ e))

      pub numbering-plain : get_or ws i 0 ≡ 0 → (l' : List ℕ) → l' ≡ sets m n (0 ∷ [])
          → Numbering numbering reals ws l l' next-real next-synthetic 0 (n + 1) (i + 1)
      numbering-plain a =
          wrote u.r u.s None next-real next-synthetic 0 (held_plain numbering reals _ _ _ _ _ _ u.held) (omega arith) 0
          (words-plain numbering reals u.r u.s u.group _ _ a)

      module _ (a : get_or ws i 0 ≡ 0 → ⊥) (b : get_or ws i 0 ≡ 1 → ⊥) (d : get_or ws i 0 ≡ 2 → ⊥) where
        pub numbering-other : (get_or ws i 0 ≡ 3 → ⊥) → (c : Cause) → c ≡ bare BadRequest
            → Puts (numbered numbering reals (groups ws)) 0 l m (Err c)
        numbering-other e = refused-here (words-other numbering reals u.r u.s u.group _ _ a b d e)

        module _ (e : get_or ws i 0 ≡ 3) where
          pub numbering-stray : member ≡ 0 → (c : Cause) → c ≡ bare BadRequest
              → Puts (numbered numbering reals (groups ws)) 0 l m (Err c)
          numbering-stray g =
              refused-here (words-stray numbering reals u.r u.s u.group _ _ a b d e (sym u.held.member_is ∙ g))

          pub numbering-member : (member ≡ 0 → ⊥) → (l' : List ℕ) → l' ≡ sets m n (member ∷ [])
              → Numbering numbering reals ws l l' next-real next-synthetic member (n + 1) (i + 1)
          numbering-member g =
              let q = words-member numbering reals u.r u.s u.group _ _ a b d e (λ z. g (u.held.member_is ∙ z)) in
              wrote u.r u.s u.group next-real next-synthetic member u.held (omega arith) member (rw u.held.member_is q)

-- a oneof opens; the step stands first, so that a search that has another one ends there
module _
    (numbering step : ℕ) (t : step ≡ index_of numbering 0 (oneof real 0 1)) (reals : ℕ) (ws l m : List ℕ)
    (next-real next-synthetic member n i : ℕ) (u : Numbering numbering reals ws l m next-real next-synthetic member n i)
    (h : i < length ws) (a : get_or ws i 0 ≡ 0 → ⊥) where
  pub numbering_optional : get_or ws i 0 ≡ 1 → (l' : List ℕ) → l' ≡ sets m n ((next-synthetic + 1) ∷ [])
      → Numbering numbering reals ws l l' (next-real + step) (next-synthetic + 1) 0 (n + 1) (i + 1)
  numbering_optional b =
      let k = held-optional numbering reals u.r u.s _ _ _ _ u.held step t in
      let e = words-optional numbering reals u.r u.s u.group (get_or ws i 0) (drop (i + 1) ws) a b in
      wrote numbering reals ws l m next-real next-synthetic member n i u h u.r (suc u.s) None
      (next-real + step) (next-synthetic + 1) 0 k (omega arith) (next-synthetic + 1) (rw u.held.synthetic-is e)

  pub numbering-opens : (get_or ws i 0 ≡ 1 → ⊥) → get_or ws i 0 ≡ 2 → (member' : ℕ) → member' ≡ next-real + 1
      → Numbering numbering reals ws l m (next-real + 1) (next-synthetic + step) member' n (i + 1)
  numbering-opens b d member' g =
      let k = held-opens numbering reals u.r u.s _ _ _ _ u.held step t member' g in
      let e = words-opens numbering reals u.r u.s u.group (get_or ws i 0) (drop (i + 1) ws) a b d in
      passed numbering reals ws l m next-real next-synthetic member n i u h (suc u.r) u.s (Some (oneof real u.r u.s))
      (next-real + 1) (next-synthetic + step) member' k (omega arith) e

pub ruleset numbering_laws = (
  numbering_start,
  numbering-length,
  numbering-done,
  numbering-plain,
  numbering_optional,
  numbering-opens,
  numbering-other,
  numbering-stray,
  numbering-member,
)
