-- What a clean sheet has: a full name is found exactly if it is declared, each number is declared once, and a type path that is a message's
-- names a message. The statements stand at the end.
-- Assumes nothing.
use Rattle.std.specs.Prelude.{◌≡◌, refl, Bool, true, ◌&&◌, List, [], ◌∷◌, map, ℕ}
use Rattle.basis.specs.Kit.{sym, ap}
use Rattle.basis.specs.Among.{Among, here, there}
use Rattle.basis.specs.Count.{once, every}
use Rattle.basis.proofs.Kit.{eq-eqb}
use Rattle.basis.proofs.Never.{never}
use Rattle.basis.proofs.AmongLaws.{among-nil, among-append-left, among-append-right, among-append-cases}
use Rattle.basis.proofs.CountLaws.{once-any, any-passing, once-unique, every-among}
use mathlib.Core.Path.{subst}
use mathlib.Core.Bool.{and-eq-true_iff}
use Rattle.octets.proofs.SameBytes.{same_refl, same-sound}
use Rattle.field.specs.Leaf.{text}
use Rattle.types.specs.Types.{TYPE_MESSAGE}
use Rattle.sheet.specs.declared.declaration.Declaration.{Declaration}
use Rattle.sheet.specs.Declaration.{has_type_path}
use Rattle.sheet.specs.Table.{message_tag}
use Rattle.sheet.specs.Members.{fields_of}
use Rattle.scope.specs.Scope.{Scope}
use Rattle.names.specs.Names.{What, message, enumeration, extension, Named, every_declared, of_kind, bears}
use Rattle.names.specs.Numbers.{Number, numbers_of, numbers_all, every_number}
use Rattle.names.specs.Contained.{is_in}
use Rattle.names.specs.Clean.{names_one, clean_name, same_number, clean_path, clean_extendee, clean_number, clean_at, clean, members_of, named_once}
use Rattle.finds.proofs.Reach.{named}

abbrev pub number : (for : List ℕ) → Declaration → Number
number t d = record { for = t; by = d }

-- ---- what is among the numbers of a sheet
among-map : {A B : Type 0} (f : A → B) {x : A} {xs : List A} → Among x xs → Among (f x) (map f xs)
among-map f here = here
among-map f (there m) = there (among-map f m)

numbers-of : (s : List ℕ) {x : Number} {b : Named} {bs : List Named} → Among x (numbers_of s b) → Among b bs → Among x (numbers_all s bs)
numbers-of s k (here {xs}) = among-append-left (numbers_all s xs) k
numbers-of s k (there {y} m) = among-append-right (numbers_of s y) (numbers-of s k m)

-- the declaration that a number is of
pub record Of (s : List ℕ) (x : Number) (bs : List Named) : Type 0 where
  pub by : Named
  pub among : Among by bs
  pub own : Among x (numbers_of s by)

pub number_of : (s : List ℕ) (x : Number) (bs : List Named) → Among x (numbers_all s bs) → Of s x bs
number_of s x [] m = among-nil m
number_of s x (b ∷ bs) m =
    among-append-cases (numbers_of s b) (λ k. record { by = b; among = here; own = k })
    (λ k. let r = number_of s x bs k in record { by = r.by; among = there r.among; own = r.own }) m

pub field-number : (s t : List ℕ) (c : Scope) (d : Declaration) → Among (named t (message c)) (every_declared s)
    → Among d (fields_of c.items) → Among (number t d) (every_number s)
field-number s t c d m k = numbers-of s (among-map (number t) k) m

pub extension-number : (s t : List ℕ) (d : Declaration) → Among (named t (extension d)) (every_declared s)
    → Among (number (text s d.extendee) d) (every_number s)
extension-number s t d m = numbers-of s here m

-- ---- a message of a full name
pub record NamesMessage (s t : List ℕ) : Type 0 where
  pub scope : Scope
  pub among : Among (named t (message scope)) (every_declared s)

message-of : (s t : List ℕ) (w : What) → Among (named t w) (every_declared s) → of_kind message_tag (named t w) ≡ true → NamesMessage s t
message-of s t (message c) m h = record { scope = c; among = m }
message-of s t (enumeration x) m h = never cc
message-of s t (extension d) m h = never cc

-- where there is one, it is declared
pub among-message : (s t : List ℕ) → is_in s message_tag t ≡ true → NamesMessage s t
among-message s t e =
    let r = any-passing (λ b. of_kind message_tag b && bears t b) (every_declared s) e in
    let b = r.one in
    let both = (and-eq-true_iff (of_kind message_tag b) (bears t b)).0 r.passes in
    message-of s t b.what
    (subst (λ x. Among (named x b.what) (every_declared s)) (sym (same-sound t b.name both.1)) r.among) both.0

-- ---- what a clean sheet says of each
module _ (s : List ℕ) (c : clean s ≡ true) where
  clean-at : (b : Named) → Among b (every_declared s) → clean_at s b ≡ true
  unfolding clean
  clean-at b m = every-among (clean_at s) m c

  abbrev members : Named → Bool
  members b = named_once s (members_of b.what)

  abbrev numbers : Named → Bool
  numbers b = every (clean_number s) (numbers_of s b)

  clean-front : (b : Named) → Among b (every_declared s) → (clean_name s b && members b && clean_extendee s b.what) ≡ true
  clean-front b m = ((and-eq-true_iff (clean_name s b && members b && clean_extendee s b.what) (numbers b)).0 (clean-at b m)).0

  pub clean-name : (b : Named) → Among b (every_declared s) → clean_name s b ≡ true
  clean-name b m =
      ((and-eq-true_iff (clean_name s b) (members b)).0
      ((and-eq-true_iff (clean_name s b && members b) (clean_extendee s b.what)).0 (clean-front b m)).0).0

  clean-extendee : (t : List ℕ) (d : Declaration) → Among (named t (extension d)) (every_declared s)
      → names_one s message_tag (text s d.extendee) ≡ true
  clean-extendee t d m =
      let b = named t (extension d) in
      ((and-eq-true_iff (clean_name s b && members b) (clean_extendee s (extension d))).0 (clean-front b m)).1

  clean-number : (x : Number) → Among x (every_number s) → clean_number s x ≡ true
  clean-number x m =
      let r = number_of s x (every_declared s) m in
      let b = r.by in
      every-among (clean_number s) r.own
      ((and-eq-true_iff (clean_name s b && members b && clean_extendee s b.what) (numbers b)).0 (clean-at b r.among)).1

  -- a number is declared once for a message
  pub number-once : (t : List ℕ) (d e : Declaration) → Among (number t d) (every_number s) → Among (number t e) (every_number s)
      → d.shape.number ≡ e.shape.number → d ≡ e
  number-once t d e m n q =
      let x = number t d in
      let single = ((and-eq-true_iff (once (same_number x) (every_number s)) (clean_path s d)).0 (clean-number x m)).0 in
      let own : same_number x x ≡ true = rw (same_refl t, eq-eqb d.shape.number d.shape.number refl) refl in
      let other : same_number x (number t e) ≡ true = rw (same_refl t, eq-eqb d.shape.number e.shape.number q) refl in
      ap (λ (y : Number). y.by) (once-unique (same_number x) single m own n other)

  names-message : (t : List ℕ) → names_one s message_tag t ≡ true → NamesMessage s t
  names-message t e = among-message s t (once-any (λ b. of_kind message_tag b && bears t b) (every_declared s) e)

  -- the type path of a message type names a message
  pub path-message : (t : List ℕ) (d : Declaration) → Among (number t d) (every_number s) → d.shape.typ ≡ TYPE_MESSAGE
      → NamesMessage s (text s d.shape.path)
  unfolding has_type_path
  path-message t d m q =
      let x = number t d in
      let named = ((and-eq-true_iff (once (same_number x) (every_number s)) (clean_path s d)).0 (clean-number x m)).1 in
      names-message (text s d.shape.path) (rw q at named)

  pub extendee-message : (t : List ℕ) (d : Declaration) → Among (named t (extension d)) (every_declared s)
      → NamesMessage s (text s d.extendee)
  extendee-message t d m = names-message (text s d.extendee) (clean-extendee t d m)
