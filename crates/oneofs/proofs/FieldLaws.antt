-- The ways through `lower_fields_by`.
--
--   Short o n <-> the outcome o is a refusal, or gives n elements or fewer
--
-- Assumes nothing.
use Rattle.std.specs.Prelude.{◌≡◌, refl, Bool, true, false, List, [], ◌∷◌, ℕ, suc, ◌≤◌, ◌<◌, eqb, length, None, Some, Ok, Result}
use Rattle.basis.specs.Kit.{ap, ◌∙◌}
use Rattle.basis.proofs.Kit.{arith, lt-ltb, le-ltb, Fits}
use Rattle.basis.proofs.CountLaws.{count-few}
use Rattle.basis.proofs.Never.{never}
use lib.ListN.{length-map}
use mir.Syntax.{w32}
use Rattle.limits.specs.Figures.{most_words}
use Rattle.reply.specs.declared.Refusal.TheVariants.{BadRequest, BeyondLimit}
use Rattle.reply.specs.declared.Cause.{Cause}
use Rattle.reply.specs.declared.Answer.{Answer}
use Rattle.reply.specs.Reply.{bare, refused_by}
use Rattle.reply.specs.Outcome.{Outcome, refused, nothing, give, push, Answered}
use Rattle.reply.proofs.Outcomes.{answered-refused}
use Rattle.emit.specs.inner.Puts.{Puts}
use Rattle.emit.proofs.WriteLaws.{give-inv, put-wrote, call_laws}
use Rattle.oneofs.specs.Fields.{real, synthetic, oneof, Group, joining, groups_after, groups, real_count}
use Rattle.oneofs.specs.Fields.{synthetic_last, word_of, numbered, lower_fields_by}
use Rattle.oneofs.proofs.GroupLaws.{numbered-given}

-- no more words are given than read
record Short (o : Outcome Group) (n : ℕ) : Type 0 where
  present : o ≡ nothing → ⊥
  most : (gs : List Group) → o ≡ give gs → length gs ≤ n

short-nil : (n : ℕ) → Short (give []) n
short-nil n = record { present = λ q. never cc; most = λ gs q. omega (arith, ap length (give-inv q)) }

short-refused : (c : Cause) (n : ℕ) → Short (refused c) n
short-refused c n = record { present = λ q. never cc; most = λ gs q. never cc }

short-push : (g : Group) (n : ℕ) (o : Outcome Group) → Short o n → Short (push (g ∷ []) o) (suc n)
short-push g n (refused c) s = short-refused c (suc n)
short-push g n nothing s = absurd (s.present refl)
short-push g n (give l) s = record {
  present = λ q. never cc;
  most = λ gs q. omega (arith, ap length (give-inv q), s.most l refl);
}

short-more : (n : ℕ) (o : Outcome Group) → Short o n → Short o (suc n)
short-more n o s = record { present = s.present; most = λ gs q. omega (arith, s.most gs q) }

short-if : (t : Bool) {n : ℕ} {o o' : Outcome Group} → Short o n → Short o' n → Short (elim t [ true ↦ o | false ↦ o' ]) n
short-if true s s' = s
short-if false s s' = s'

short-joining : (member : Group) (n : ℕ) (o : Outcome Group) → Short o n → Short (joining member o) (suc n)
short-joining None n o s = short-refused (bare BadRequest) (suc n)
short-joining (Some x) n o s = short-push (Some x) n o s

groups-short : (r s : ℕ) (member : Group) (ws : List ℕ) → Short (groups_after r s member ws) (length ws)
unfolding groups_after
groups-short r s member [] = short-nil 0
groups-short r s member (w ∷ ws) =
    let n = length ws in
    short-if (eqb w 0) (short-push None n _ (groups-short r s None ws))
    (short-if (eqb w 1) (short-push (Some (oneof synthetic r s)) n _ (groups-short r (suc s) None ws))
    (short-if (eqb w 2) (short-more n _ (groups-short (suc r) s (Some (oneof real r s)) ws))
    (short-if (eqb w 3) (short-joining member n _ (groups-short r s member ws)) (short-refused (bare BadRequest) (suc n)))))

pub groups-present : (ws : List ℕ) → groups ws ≡ nothing → ⊥
groups-present ws = (groups-short 0 0 None ws).present

pub fields_fit : (numbering reals : ℕ) (ws z z' : List ℕ) (p : Result ℕ Cause) (n : ℕ) → Puts (numbered numbering reals (groups ws)) 0 z z' p
    → p ≡ Ok n → length ws ≤ most_words → Fits w32 n
fields_fit numbering reals ws z z' p n u e h =
    let g = put-wrote n u e in
    let made = numbered-given numbering reals g.elements (groups ws) g.is in
    let size = ap length made.2 ∙ length-map made.0 (word_of numbering reals) in
    record { fits = omega (arith, size, (groups-short 0 0 None ws).most made.0 made.1, g.laid.next) }

module _ (numbering : ℕ) (ws : List ℕ) where
  module _ (l : List ℕ) (r : Answer) where
    pub fields-unnumbered : synthetic_last < numbering → r ≡ refused_by BadRequest → Answered (lower_fields_by numbering ws) l l r
    unfolding lower_fields_by
    fields-unnumbered h a = rw a (answered-refused _ l (bare BadRequest) (simp (lower_fields_by, lt-ltb _ _ h)))

    pub fields-long : numbering ≤ synthetic_last → most_words < length ws → r ≡ refused_by BeyondLimit
        → Answered (lower_fields_by numbering ws) l l r
    unfolding lower_fields_by
    fields-long g h a = rw a (answered-refused _ l (bare BeyondLimit) (simp (lower_fields_by, le-ltb _ _ g, lt-ltb _ _ h)))

  module _ (h : length ws ≤ most_words) (reals : ℕ) (e : reals ≡ real_count ws) where
    pub fields-reals : reals ≤ most_words
    fields-reals = omega (arith, e, count-few (λ w. eqb w 2) ws)

    pub fields-left : numbering ≤ synthetic_last → lower_fields_by numbering ws ≡ numbered numbering reals (groups ws)
    unfolding lower_fields_by
    fields-left g = rw e (simp (lower_fields_by, le-ltb _ _ g, le-ltb _ _ h))

pub ruleset fields_laws = (fields-unnumbered, fields-long, fields-reals, fields-left, fields_fit, call_laws)
