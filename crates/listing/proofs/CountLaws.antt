-- Rows that are counted and then written: the ways through `put_all_rows`, `count_words` and `list_over`.
-- Assumes nothing.
use Rattle.std.specs.Prelude.{◌≡◌, refl, List, ℕ, ◌*◌, ◌≤◌, ◌<◌, length, Err, Ok, Result}
use Rattle.basis.specs.Kit.{sym, ap, ◌∙◌}
use Rattle.basis.proofs.Kit.{arith, Fits}
use native.Mathlib.Nat.{zero-add}
use mir.Syntax.{w32}
use Rattle.basis.proofs.Never.{never}
use Rattle.limits.specs.Figures.{most_option_bytes}
use Rattle.reply.specs.declared.Cause.{Cause}
use Rattle.reply.specs.declared.Refusal.TheVariants.{NoRoom}
use Rattle.reply.specs.declared.Answer.{Answer}
use Rattle.reply.specs.Reply.{refused_for, refused_by, done_with}
use Rattle.reply.specs.Outcome.{Outcome, refused, nothing, give, Answered}
use Rattle.reply.proofs.Outcomes.{answered-refused, answered-no-room, answered-done}
use Rattle.emit.specs.inner.Puts.{Puts}
use Rattle.emit.proofs.WriteLaws.{put-wrote, put_refused, put-left, sets-front}
use Rattle.listing.specs.inner.Worded.{WroteAtMost}
use Rattle.listing.specs.inner.Admitted.{counted}

-- ---- count_words
pub words_counted : (o : Outcome ℕ) (l l' : List ℕ) (r : Result ℕ Cause) → Puts o 0 l l' r → r ≡ counted o
words_counted o l l' (Ok n) k =
    let g = put-wrote n k refl in
    ap Ok (g.laid.next ∙ zero-add (length g.elements)) ∙ sym (ap counted g.is)
words_counted o l l' (Err c) k = sym (ap counted (put_refused c k refl))

none-put : (l l' : List ℕ) (r : Result ℕ Cause) → Puts nothing 0 l l' r → ⊥
none-put l l' (Ok n) k = let e = (put-wrote n k refl).is in never cc
none-put l l' (Err c) k = let e = put_refused c k refl in never cc

-- ---- list_over
module _ (o : Outcome ℕ) (p : Result ℕ Cause) (q : p ≡ counted o) (l : List ℕ) (r : Answer) where
  pub over-refused : (c : Cause) → p ≡ Err c → r ≡ refused_for c → Answered o l l r
  over-refused c g a = rw a (answered-refused o l c (go o (sym q ∙ g)))
    where
      go : (x : Outcome ℕ) → counted x ≡ Err c → x ≡ refused c
      go (give es) e = never cc
      go nothing e = never cc
      go (refused c') e = let same : c' ≡ c = cc in ap refused same

  module _ (n : ℕ) (g : p ≡ Ok n) where
    pub over-no-room : length l < n → r ≡ refused_by NoRoom → Answered o l l r
    over-no-room h a = rw a (go o (sym q ∙ g))
      where
        go : (x : Outcome ℕ) → counted x ≡ Ok n → Answered x l l (refused_by NoRoom)
        go (give es) e = let same : length es ≡ n = cc in answered-no-room (give es) l es refl (omega (arith, same, h))
        go nothing e = let same : 0 ≡ n = cc in absurd (omega (arith, same, h))
        go (refused c) e = never cc

    pub over_done : (l' : List ℕ) (p' : Result ℕ Cause) → Puts o 0 l l' p' → n ≤ length l → r ≡ done_with n → Answered o l l' r
    over_done l' p' k h a = rw a (go o k (sym q ∙ g))
      where
        go : (x : Outcome ℕ) → Puts x 0 l l' p' → counted x ≡ Ok n → Answered x l l' (done_with n)
        go (give es) k e =
            let same : n ≡ length es = cc in
            let room : length es ≤ length l = omega (arith, same, h) in
            rw (same, put-left es k refl ∙ sets-front es l room) (answered-done (give es) l es refl room)
        go nothing k e = absurd (none-put l l' p' k)
        go (refused c) k e = never cc

    pub over-fits : (bs : List ℕ) → WroteAtMost (8 * length bs) p → length bs ≤ most_option_bytes → Fits w32 n
    unfolding WroteAtMost
    over-fits bs few h = go p few g
      where
        go : (x : Result ℕ Cause) → WroteAtMost (8 * length bs) x → x ≡ Ok n → Fits w32 n
        go (Ok k) x e = let same : k ≡ n = cc in record { fits = omega (arith, same, x, h) }
        go (Err c) x e = never cc

pub ruleset over_laws = (over-refused, over-no-room, over_done, over-fits)
