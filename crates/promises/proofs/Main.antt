-- The claims of the project that hold so far, one statement each below its sentence; each proof is a citation. Start here: a reader who
-- believes the definitions that these statements name (specs/ of the crates that they come from) may stop here.
--
-- `s` is a sheet, `r` a request, `type` an options type, `bs` option bytes, `q` a name, any bytes. What 01 says that a call comes to is
-- `resolve_bytes s r` of `resolve`, `listing s type bs` of `list`, `query s type q bs` of `query`. Of each the contract, with no premise on
-- its inputs, is `Answered o before after a`, o being what it comes to: `a` is the answer, and the lent memory, `before` the call, is
-- `after` it. `Bytes s` says that every element of s is below 256, as those of a slice of bytes are.
--
-- Assumes nothing.
use Rattle.std.specs.Prelude.{◌≡◌, Bool, true, false, List, [], ◌∷◌, ◌++◌, map, ℕ, ◌+◌, ◌≤◌, ◌<◌, ◌^◌, length, take, drop, None, Some, Err, Ok}
use Rattle.basis.specs.Kit.{ap, ◌∙◌}
use Rattle.basis.specs.Among.{Among, Ordered}
use Rattle.basis.proofs.Kit.{lt-ltb, le-ltb}
use lib.IntN.{ℤ}
use lib.ListN.{get_elem?}
use mathlib.Core.Option as option
use Rattle.limits.specs.Figures.{most_levels, most_option_bytes}
use Rattle.octets.proofs.Bytes.{Bytes}
use Rattle.reply.specs.declared.Cause.{Cause}
use Rattle.reply.specs.declared.Refusal.TheVariants.{ExtensionNotFound, WrongExtensionType, BadRequest, BeyondLimit, NoRoom}
use Rattle.reply.specs.declared.Answer.{Answer}
use Rattle.reply.specs.Reply.{refused_for, refused_by, done_with, absent_answer, decided}
use Rattle.reply.specs.Outcome.{Outcome, nothing, give, within, answer_of, left_of, Answered}
use Rattle.reply.specs.Outcome as outcome
use Rattle.reply.proofs.Outcomes.{answered-unique-answer, answered-unique-left}
use Rattle.path.specs.Path.{Path, components, all_ident, is_path}
use Rattle.candidates.specs.Candidates.{candidates}
use Rattle.field.specs.declared.Span.{Span}
use Rattle.field.specs.Leaf.{span, text}
use Rattle.field.specs.Part.{PartOf, no_bytes}
use Rattle.sheet.specs.declared.declaration.Declaration.{Declaration}
use Rattle.sheet.specs.Members.{Enumeration}
use Rattle.sheetform.specs.Form.{judge_sheet}
use Rattle.requestform.specs.Form.{judge_request}
use Rattle.scope.specs.declared.lookup.LookupScope.{LookupScope}
use Rattle.scope.specs.Scope.{Scope, extends}
use Rattle.fullname.specs.FullName.{messages_at, enums_at}
use Rattle.search.specs.declared.extension.Candidate.{Candidate}
use Rattle.search.specs.declared.extension.Found.{Found as FoundExtension}
use Rattle.search.specs.Lookup.{found_at, tried}
use Rattle.search.specs.Answers.{Undeclared}
use Rattle.request.specs.declared.name.Part.{Part}
use Rattle.request.specs.Request.{RequestOption, request_of}
use Rattle.records.specs.Records.{Recs, encode}
use Rattle.records.specs.Raw.{raw_of, raws_of, Proper}
use Rattle.records.proofs.ReadBack as encoding
use Rattle.lookups.specs.Lookups.{Lookups, Message, walking}
use Rattle.known.specs.Known.{Known}
use Rattle.faults.specs.declared.Fault.{Fault}
use Rattle.steps.specs.declared.Lack.{Lack}
use Rattle.steps.specs.declared.Lack.TheVariants.{NoExtension, OtherMessage}
use Rattle.steps.specs.Steps.{why_of, step_of}
use Rattle.options.specs.Settle.{fails, settle}
use Rattle.faults.specs.Faults.{cause_at}
use Rattle.options.specs.Options.{stopped, gather}
use Rattle.options.specs.Steps.{records}
use Rattle.options.specs.Resolve.{resolving, resolve_bytes, resolve_tested}
use Rattle.options.proofs.TestedLaws as resolves
use Rattle.alone.specs.Alone.{Own}
use Rattle.alone.proofs.Own as apart
use Rattle.find.specs.Find.{find_words}
use Rattle.ranges.specs.Ranges.{lower_ranges}
use Rattle.oneofs.specs.Fields.{lower_fields, lower_fields_by}
use Rattle.entries.specs.declared.Row.{Row}
use Rattle.entries.specs.Tree.{Tree, rows, words, words_of}
use Rattle.entries.specs.Item.{declared}
use Rattle.entries.specs.Reading.{listed, reading, under, records_of}
use Rattle.payload.specs.Payload.{payload_span, payload_answer}
use Rattle.listing.specs.Listing.{listing, listing_tested}
use Rattle.listing.proofs.ListingLaws as lists
use Rattle.following.specs.Reached.{never, reached}
use Rattle.query.specs.Query.{query_of, judge_inputs, query, query_tested}
use Rattle.query.proofs.CallLaws as queries
use Rattle.names.specs.Names.{message, enumeration, extension, every_declared}
use Rattle.names.specs.Contained.{contained}
use Rattle.finds.proofs.Reach.{named}
use Rattle.finds.proofs.Finds as finds
use Rattle.evolution.specs.Calls.{clean_answer, contained_answer}
use Rattle.places.specs.Places.{options_type, OptionRefused, Positioned, FirstRefused, PartRefused, QueryPlaced, Bare, Neither}
use Rattle.places.proofs.Resolved as resolved
use Rattle.places.proofs.Queried as queried
use Rattle.places.proofs.Elsewhere as elsewhere
use Rattle.places.proofs.BareLaws as nowhere
use Rattle.readback.specs.Seen.{seen, nested, Readable}
use Rattle.readback.specs.Typed.{Typed, contents, content_of}
use Rattle.readback.specs.Once.{DeclaredAt, Once}
use Rattle.readback.specs.Older.{Keeps}
use Rattle.readback.specs.Lying.{RecordLies, Lying}
use Rattle.readback.specs.Encoded.{Encoded}
use Rattle.readback.specs.Knows.{Knows}
use Rattle.readback.specs.Rows.{Stand}
use Rattle.readback.specs.Follows.{Follows, Leads, Lacks, OwnRow}
use Rattle.readback.proofs.RecordsRead as rereads
use Rattle.readback.proofs.OlderBytes as older
use Rattle.readback.proofs.OwnBytes as own
use Rattle.readback.proofs.UnderLaws.{reading-under, under-reading}
use Rattle.readback.proofs.LyingLaws as lying
use Rattle.readback.proofs.EncodedLaws as encoded
use Rattle.readback.proofs.KnowsLaws as knows
use Rattle.readback.proofs.OnceLaws as once
use Rattle.readback.proofs.RowsLaws as standing
use Rattle.readback.proofs.PartLaws as parts
use Rattle.readback.proofs.FollowsLaws as follows
use Rattle.readback.proofs.QueryLaws as answers
use Rattle.readback.proofs.CallLaws as calls
use Rattle.promises.specs.Levels.{deepest}
use Rattle.promises.specs.Evolve.{CleanSheet, declares, ListedUnder, OldReads}
use Rattle.promises.specs.Demands.{FromTable, ByRule}
use Rattle.promises.specs.Back.{TypedAt, ListedBack}
use Rattle.promises.proofs.Asking.{answer}
use Rattle.promises.proofs.Examples as examples
use Rattle.promises.proofs.Bounds as bounds
use Rattle.promises.proofs.Levels as levels
use Rattle.promises.proofs.BackLaws as back
use Rattle.promises.proofs.Theorems as theorems
use Rattle.promises.proofs.CleanLaws as cleanly
use Rattle.promises.proofs.EvolveLaws as evolves
use Rattle.promises.proofs.Demand as demand
use Rattle.promises.proofs.Demands as demands
use Rattle.reply.specs.Verdicts.{fine}

-- ==== Demand 1: every input gets an answer from 01's table; a refusal writes nothing; NoRoom comes last
-- Of each call, `o` being what it comes to:
module _ (o : Outcome ℕ) (before : List ℕ) where
  -- Any two outcomes that the contract allows coincide, in the answer, all six numbers of it,
  pub one_answer : (after after' : List ℕ) (a a' : Answer) → Answered o before after a → Answered o before after' a' → a ≡ a'
  one_answer after after' a a' = answered-unique-answer o before after after' a a'

  -- and in the lent memory.
  pub one-memory : (after after' : List ℕ) (a a' : Answer) → Answered o before after a → Answered o before after' a' → after ≡ after'
  one-memory after after' a a' = answered-unique-left o before after after' a a'

  module _ (after : List ℕ) (a : Answer) (k : Answered o before after a) where
    -- What is refused is answered by its numbers, the reply, its second word and where it was refused, whatever the room, and nothing is
    -- written:
    pub refused-answer : (c : Cause) → o ≡ outcome.refused c → a ≡ refused_for c
    refused-answer c e = k.answer ∙ ap (λ x. answer_of (within (length before) x)) e

    pub refused-memory : (c : Cause) → o ≡ outcome.refused c → after ≡ before
    refused-memory c e = k.left ∙ ap (λ x. left_of (within (length before) x) before) e

    -- NoRoom is left for elements that the lent memory does not hold, and nothing is written.
    pub no-room-answer : (bs : List ℕ) → o ≡ give bs → length before < length bs → a ≡ refused_by NoRoom
    no-room-answer bs e h = k.answer ∙ rw e (simp (within, lt-ltb _ _ h))

    pub no-room-memory : (bs : List ℕ) → o ≡ give bs → length before < length bs → after ≡ before
    no-room-memory bs e h = k.left ∙ rw e (simp (within, lt-ltb _ _ h))

    -- Else the answer is 0 with their number, they stand at the front, and what is behind them stays.
    pub done-answer : (bs : List ℕ) → o ≡ give bs → length bs ≤ length before → a ≡ done_with (length bs)
    done-answer bs e h = k.answer ∙ rw e (simp (within, le-ltb _ _ h))

    pub done-memory : (bs : List ℕ) → o ≡ give bs → length bs ≤ length before → after ≡ bs ++ drop (length bs) before
    done-memory bs e h = k.left ∙ rw e (simp (within, le-ltb _ _ h))

    -- Absent is an answer of its own, never an empty one.
    pub absent-answer : o ≡ nothing → a ≡ absent_answer
    absent-answer e = k.answer ∙ ap (λ x. answer_of (within (length before) x)) e

-- A sheet that was tested once may be asked a thousand times: on it a call without that test comes to the same.
module _ (s : List ℕ) (fine : judge_sheet s ≡ fine) where
  pub resolve-once : (r : List ℕ) → resolve_bytes s r ≡ resolve_tested s r
  resolve-once r = resolves.resolve-tested s r fine

  pub list-once : (type bs : List ℕ) → listing s type bs ≡ listing_tested s type bs
  list-once type bs = lists.list-tested s type bs fine

  pub query-once : (type q bs : List ℕ) → query s type q bs ≡ query_tested s type q bs
  query-once type q bs = queries.query-tested s type q bs fine

-- `payload` writes nothing. A place and a length inside the option bytes give that part, and 0 with its length;
module _ (bs : List ℕ) (at n : ℕ) where
  pub payload-inside : length bs ≤ most_option_bytes → at + n ≤ length bs
      → (payload_span bs at n ≡ span at (at + n)) × (payload_answer bs at n ≡ done_with n)
  payload-inside = parts.payload-inside bs at n

  -- others an empty part, and 2; of over-long bytes it is 3.
  pub payload-outside : length bs ≤ most_option_bytes → length bs < at + n
      → (payload_span bs at n ≡ no_bytes) × (payload_answer bs at n ≡ refused_by BadRequest)
  payload-outside = parts.payload-outside bs at n

  pub payload-long : most_option_bytes < length bs → (payload_span bs at n ≡ no_bytes) × (payload_answer bs at n ≡ refused_by BeyondLimit)
  payload-long = parts.payload-long bs at n

-- Any two parts that its contract allows are the same bytes, in the same block of memory at the same offset.
pub one-part : (p : Span) (s : List ℕ) (b o : ℕ) (t t' : List ℕ) (b' b'' o' o'' : ℕ) → PartOf p s b o t b' o' → PartOf p s b o t' b'' o''
    → (t ≡ t') × (b' ≡ b'') × (o' ≡ o'')
one-part = parts.part-unique

-- ==== Demand 2: look-ups and bytes are 01's and Encoding's
-- 01's examples P1 to P9, of the whole call: bytes, refusals with their places, Absent.
pub examples-hold : map answer examples.p1-to-p9 ≡ map (λ x. x.says) examples.p1-to-p9
examples-hold = examples.table

-- Records read back by Encoding: numbers, wire types and payloads, record by record, inside each message again.
pub written-reads-back : (rs : Recs) → Proper rs → length (encode rs) < 2 ^ 64 → raw_of (encode rs) ≡ Some (raws_of rs)
written-reads-back rs p h = encoding.read_back p h

-- So does what a request writes.
pub resolved-reads-back : (s r : List ℕ) → Bytes s → Bytes r → (x : Recs) → resolving s r ≡ records x → raw_of (encode x) ≡ Some (raws_of x)
resolved-reads-back = back.resolved-reads-back

-- An extension part that is reached gets ExtensionNotFound exactly when none of 01's scopes at its candidate paths declares that name.
module _ (s r scope : List ℕ) (m : Message) (p : Part) (x : p.extension ≡ true) where
  pub not-found-only : is_path (text r p.name) ≡ true → (l : Lack) → step_of (walking s) s r scope m p ≡ Err l
      → why_of l ≡ ExtensionNotFound → (q : Path) → Among q (candidates scope (text r p.name)) → Undeclared s q
  not-found-only = theorems.part-not-found s r scope m p x

  pub not-found-whenever : ((q : Path) → Among q (candidates scope (text r p.name)) → Undeclared s q)
      → step_of (walking s) s r scope m p ≡ Err (NoExtension ExtensionNotFound)
  not-found-whenever = theorems.part-undeclared s r scope m p x

  -- Found first, tested second: WrongExtensionType exactly when the one found extends another message. The part then says which it is, and
  -- at which candidate it stands.
  pub wrong-whenever : (c : Candidate) → tried s scope (text r p.name) ≡ Ok c
      → extends s m.name c.found.declaration ≡ false → step_of (walking s) s r scope m p ≡ Err (OtherMessage c)
  wrong-whenever = theorems.part-other-extendee s r scope m p x

  pub wrong-only : (l : Lack) → step_of (walking s) s r scope m p ≡ Err l → why_of l ≡ WrongExtensionType
      → theorems.Mismatch s scope m (text r p.name) l
  wrong-only = theorems.part-wrong s r scope m p x

-- An option that is refused makes the whole refused,
pub first-refused : (L : Lookups) (s r scope : List ℕ) (m : Message) (i : ℕ) (ks : List Known) (x : Recs) (o : RequestOption) (os : List RequestOption)
    (f : Fault) → settle L s r scope m o ≡ fails f → gather L s r scope m i ks x (o ∷ os) ≡ stopped (cause_at i f)
first-refused = theorems.option-refused

-- and no option behind it is looked at.
pub behind-unread : (L : Lookups) (s r scope : List ℕ) (m : Message) (front : List RequestOption) (i : ℕ) (ks : List Known) (x : Recs) (o : RequestOption)
    (os os' : List RequestOption) (f : Fault) → settle L s r scope m o ≡ fails f
    → gather L s r scope m i ks x (front ++ o ∷ os) ≡ gather L s r scope m i ks x (front ++ o ∷ os')
behind-unread = theorems.options-behind

-- ==== Demands 1 and 2, where it was refused (02's request [9])
-- Of `resolve`:
module _ (s r before after : List ℕ) (a : Answer) (k : Answered (resolve_bytes s r) before after a) where
  -- For every input the option is a position exactly when sheet, request and options type are fine and an option is refused by its own
  -- steps; else it is 65,535, and so is the part.
  pub option-positioned : Positioned s r a
  option-positioned = resolved.positioned s r before after a k

  module _ (o : OptionRefused s r) where
    -- It is the first: every option before it, in a request of its own with the same scope and options type, is not refused (17 aside); and
    -- it is itself refused so, with the same reply, second word and part, at option 0.
    pub option-first : FirstRefused s r a
    option-first = resolved.first-refused s r before after a k o

    -- The part is below the number of parts of that option's name. Every part before it means a declaration of message type whose type path
    -- names one message, each in the message reached. Where the constant is at fault the part is the last one; a builtin's is 0.
    pub option-part : PartRefused s r a
    option-part = resolved.part-refused s r before after a k o

-- A request of its own: `alone r i` is the heading of r and the field of its i-th option. It is a fine request, of the same scope and options
-- type, and has that option alone, with the fault that it has in r, or none.
pub option-own : (r : List ℕ) → judge_request r ≡ fine → (i : ℕ) (o : RequestOption) → get_elem? (request_of r).options i ≡ option.some o → Own r i o
option-own = apart.own-request

-- Of `query` the option is 65,535, and the part is a position exactly when its name is refused by its steps: that of the part at fault.
pub query-part : (s type q bs before after : List ℕ) (a : Answer) → Answered (query s type q bs) before after a → QueryPlaced s type q bs a
query-part = queried.query-placed

-- Every other call gives neither position: in its refusals too.
pub find-nowhere : (s c p : List ℕ) → Bare (find_words s c p)
find-nowhere = elsewhere.find-bare

pub list-nowhere : (s type bs : List ℕ) → Bare (listing s type bs)
list-nowhere = elsewhere.list-bare

pub ranges-nowhere : (k : ℕ) (ws : List ℤ) → Bare (lower_ranges k ws)
ranges-nowhere = elsewhere.ranges-bare

pub fields-nowhere : (ws : List ℕ) → Bare (lower_fields ws)
fields-nowhere = elsewhere.fields-bare

pub fields-by-nowhere : (numbering : ℕ) (ws : List ℕ) → Bare (lower_fields_by numbering ws)
fields-by-nowhere = elsewhere.fields-by-bare

pub bare-neither : {A : Type 0} {o : Outcome A} {before after : List A} {a : Answer} → Answered o before after a → Bare o → Neither a
bare-neither = nowhere.bare-nowhere

pub payload-nowhere : (bs : List ℕ) (at n : ℕ) → Neither (payload_answer bs at n)
payload-nowhere = elsewhere.payload-neither

pub clean-nowhere : (s : List ℕ) → Neither (clean_answer s)
clean-nowhere = elsewhere.clean-neither

pub contained-nowhere : (s t : List ℕ) → Neither (contained_answer s t)
contained-nowhere = elsewhere.contained-neither

-- ==== Demand 2, reading back: what option bytes hold is Encoding's and 01's
-- `L` are look-ups, any, as `walking s` is. `records_of L s type bs` is what 01 says that the option bytes hold under an options type:
-- `list` writes the rows of it, and `query` follows a name through it.
pub list-reads : (s type bs ws : List ℕ) → listing s type bs ≡ give ws
    → (m : Message) × (t : Tree) × (records_of (walking s) s type bs ≡ under m t) × (ws ≡ words_of (rows 0 t))
list-reads = calls.list-reads

-- What a request writes is listed under the same sheet and options type, where the sheet declares each number of a message once, as exactly
-- the records that were written: in order, with their levels, numbers, types, values and payloads.
module _ (s r : List ℕ) (octets : Bytes s) (octets' : Bytes r) (x : Recs) (e : resolving s r ≡ records x)
    (single : Once (walking s) s) where
  pub resolved-listed : ListedBack s (text r (request_of r).options_type) x
  resolved-listed = back.resolved-listed s r octets octets' x e single

  -- For the sheet types them: the declaration that a step found by its name is the one that its number leads to.
  pub resolved-typed : TypedAt (walking s) s (text r (request_of r).options_type) x
  resolved-typed = back.resolved-typed s r octets octets' x e single

-- The bytes of any records, rs:
module _ {rs : Recs} (p : Proper rs) (small : length (encode rs) < 2 ^ 64) where
  module _ (L : Lookups) (s : List ℕ) where
    -- Under any sheet that does not contradict them they are read, never refused, as that sheet sees these records: what it does not
    -- declare is unknown and not entered.
    pub any-sheet : (m : Message) (place d : ℕ) → Readable L s m rs → nested rs < d
        → reading L s d m place (encode rs) ≡ listed (seen L s m rs place)
    any-sheet m place d y k = rereads.reading-of-records L s p m place d y small k

    -- So it is under an options type, of every call.
    pub any-type : (type : List ℕ) (x : LookupScope) → L.message type ≡ Ok x → Readable L s (record { name = type; place = x }) rs
        → nested rs < most_levels
        → records_of L s type (encode rs) ≡ under (record { name = type; place = x }) (seen L s (record { name = type; place = x }) rs 0)
    any-type type x g y k = reading-under L s type (encode rs) x g _ (any-sheet (record { name = type; place = x }) 0 most_levels y k)

    -- Under the sheet that types them nothing is unknown: the rows are these records in order, each with its level, number, type, value
    -- and payload.
    module _ (m : Message) (y : Typed L s m rs) where
      pub own-bytes : (d : ℕ) → nested rs < d → reading L s d m 0 (encode rs) ≡ listed (seen L s m rs 0)
      own-bytes d k = own.own-bytes L s p m y d small k

      pub own-rows : map (content_of (encode rs)) (rows 0 (seen L s m rs 0)) ≡ contents 0 rs
      own-rows = own.own-rows L s p m y

  -- Under an older sheet that keeps to the one that types them they are read too.
  pub older-bytes : (L : Lookups) (s : List ℕ) (L' : Lookups) (s' : List ℕ) (Same : Message → Message → Type 0) → Keeps L s L' s' Same
      → (m m' : Message) → Same m m' → Typed L' s' m' rs → (d : ℕ) → nested rs < d
      → reading L s d m 0 (encode rs) ≡ listed (seen L s m rs 0)
  older-bytes L s L' s' Same keeps m m' one y d k = older.older-bytes L s L' s' Same keeps p m m' one y 0 d small k

-- Any option bytes that are read:
module _ (L : Lookups) (s type bs : List ℕ) (m : Message) (t : Tree) (read : records_of L s type bs ≡ under m t) where
  -- By Encoding alone they are the records at the outermost level, in order, with their numbers, wire types and payloads; and so is the
  -- payload of each known message what it holds.
  pub records-encoded : Encoded bs bs t
  records-encoded = encoded.reading-encoded bs L s most_levels m t (under-reading L s type bs m t read)

  -- The records lie inside the bytes, one behind the other, what a message holds inside its payload, and each value is what its payload
  -- says;
  pub records-lie : Lying bs 0 (length bs) t
  records-lie = lying.reading-lies bs L s most_levels m t (under-reading L s type bs m t read)

  -- so each row lies inside the bytes, and its value is what its payload says.
  pub row_lies : {r : Row} → Among r (rows 0 t) → RecordLies bs 0 (length bs) r.entry
  row_lies = lying.rows_lie bs 0 0 (length bs) t records-lie

  -- Asked for the place and length of a row, `payload` hands back the bytes there, and 0.
  pub row-payload : {r : Row} → length bs ≤ most_option_bytes → Among r (rows 0 t)
      → (payload_span bs r.entry.place r.entry.size ≡ span r.entry.place (r.entry.place + r.entry.size))
      × (payload_answer bs r.entry.place r.entry.size ≡ done_with r.entry.size)
  row-payload {r} few k = payload-inside bs r.entry.place r.entry.size few (row_lies k).inside

  -- A record is known exactly if its number is declared at its message, by that declaration and its type; known messages, and they alone,
  -- are entered, each at the message that its type path names.
  pub records-known : Knows L s m t
  records-known = knows.reading-knows L s most_levels m 0 bs t (under-reading L s type bs m t read)

  -- The rows are in the order of the bytes;
  pub rows-ordered : Ordered (λ x y. x.entry.place ≤ y.entry.place) (rows 0 t)
  rows-ordered = lying.rows-ordered bs 0 0 (length bs) t records-lie

  -- what is inside a known message stands directly behind its row and begins one level deeper, then comes what lies behind it, no deeper.
  pub rows-stand : Stand (rows 0 t)
  rows-stand = standing.rows-stand bs L s 0 0 (length bs) m t records-lie records-known

-- A number is declared at a message exactly if a field of the message, or an extension of it, has it.
module _ (s : List ℕ) (m : Message) (n : ℕ) where
  pub declared-only : (d : Declaration) → declared s m n ≡ Some d → DeclaredAt s m d × (d.shape.number ≡ n)
  declared-only = once.declared-only s m n

  pub declared-none : declared s m n ≡ None → (d : Declaration) → DeclaredAt s m d → d.shape.number ≡ n → ⊥
  declared-none = once.declared-none s m n

-- ==== Demand 2, the value query
module _ (s type q bs : List ℕ) where
  -- Its answer is one of the rows that `list` writes of the same bytes.
  pub query-own : (ws : List ℕ) → query s type q bs ≡ give ws → OwnRow s type bs ws
  query-own = calls.query-own s type bs q

  -- What follows holds of it, its look-ups being those that walk over the sheet, and no records being joined: where its inputs are fine, so
  -- where it gives words or Absent.
  pub query-fine : judge_inputs (judge_sheet s) type q bs ≡ fine → query s type q bs ≡ query_of never (walking s) s type q bs
  query-fine = calls.query-fine s type bs q

  pub query-of : (ws : List ℕ) → query s type q bs ≡ give ws → query_of never (walking s) s type q bs ≡ give ws
  query-of = calls.query-of s type bs q

  pub query-of-none : query s type q bs ≡ nothing → query_of never (walking s) s type q bs ≡ nothing
  query-of-none = calls.query-of-none s type bs q

-- It reaches exactly the row that 01 follows: at each part the last record that the part's declaration lists.
pub reached-follows : (ds : List Declaration) (l : ℕ) (t : Tree) (x : Row) → reached never l ds t ≡ Some x → Follows l ds t x
reached-follows = follows.reached-follows

pub follows-reached : {l : ℕ} {ds : List Declaration} {t : Tree} {x : Row} → Follows l ds t x → reached never l ds t ≡ Some x
follows-reached = follows.follows-reached

-- Whatever is joined:
module _ (joins : Declaration → Bool) (L : Lookups) (s type q bs : List ℕ) where
  -- it answers the words of the row that the name leads to,
  pub query-answers : (ws : List ℕ) → query_of joins L s type q bs ≡ give ws → (x : Row) × Leads joins L s type q bs x × (ws ≡ words x)
  query-answers = answers.query-answers joins L s type q bs

  pub query-given : (x : Row) → Leads joins L s type q bs x → query_of joins L s type q bs ≡ give (words x)
  query-given = answers.leads-query joins L s type q bs

  -- which is a row of the listing of the same bytes,
  pub query-listed : (x : Row) (y : Leads joins L s type q bs x) → Among x (rows 0 y.tree)
  query-listed = answers.leads-listed joins L s type q bs

  -- and Absent exactly where there is none or parts are left on a group.
  pub query-absent : query_of joins L s type q bs ≡ nothing → Lacks joins L s type q bs
  query-absent = answers.query-absent joins L s type q bs

  pub query-lacks : Lacks joins L s type q bs → query_of joins L s type q bs ≡ nothing
  query-lacks = answers.lacks-query joins L s type q bs

-- ==== Demand 3: old readers, new writers
-- A request writes at most 65,536 bytes,
pub bytes-few : (s r : List ℕ) (x : Recs) → resolving s r ≡ records x → length (encode x) ≤ 65536
bytes-few s r x e = bounds.resolve-few (judge_sheet s) s r x e

-- and none of its records lies deeper than level 30.
pub levels-few : (s r : List ℕ) (x : Recs) → resolving s r ≡ records x → deepest x ≤ 31
levels-few s r x e = levels.resolve-levels (judge_sheet s) s r x e

-- In a clean sheet a full name is found exactly if it is declared, and then it is that declaration.
module _ (s : List ℕ) (c : CleanSheet s) where
  pub clean-message-found : (t : List ℕ) (x : Scope) → Among (named t (message x)) (every_declared s) → messages_at s (components t) ≡ x ∷ []
  clean-message-found = finds.message-found s c.fine (cleanly.clean-name s c.clear)

  pub clean-enum-found : (t : List ℕ) (e : Enumeration) → Among (named t (enumeration e)) (every_declared s)
      → enums_at s (components t) ≡ e ∷ []
  clean-enum-found = finds.enum-found s c.fine (cleanly.clean-name s c.clear)

  pub clean-extension-found : (t : List ℕ) (d : Declaration) → Among (named t (extension d)) (every_declared s)
      → (f : FoundExtension) × (found_at s (components t) ≡ Some f) × (f.declaration ≡ d)
  clean-extension-found = finds.extension-found s c.fine (cleanly.clean-name s c.clear)

  -- It declares each number once for a message.
  pub clean-once : Once (walking s) s
  clean-once = evolves.clean-once s c.fine c.clear

-- What is found is declared, in any sheet.
module _ (s t : List ℕ) (p : all_ident (components t) ≡ true) where
  pub found-message-declared : (x : Scope) → Among x (messages_at s (components t)) → Among (named t (message x)) (every_declared s)
  found-message-declared = finds.message-declared s t p

  pub found-enum-declared : (e : Enumeration) → Among e (enums_at s (components t)) → Among (named t (enumeration e)) (every_declared s)
  found-enum-declared = finds.enum-declared s t p

  pub found-extension-declared : (f : FoundExtension) → found_at s (components t) ≡ Some f
      → Among (named t (extension f.declaration)) (every_declared s)
  found-extension-declared = finds.extension-declared s t p

-- Of the calls' own contracts: where `clean` and `contained` said yes, and `resolve` wrote n bytes under the newer sheet, `list` of these
-- bytes under the older one, with room enough, answers 0 and leaves the rows that the demand speaks of.
module _ (older newer r : List ℕ) (octets : Bytes newer) (octets' : Bytes r) (clear : clean_answer older ≡ decided true)
    (clear' : clean_answer newer ≡ decided true) (inside : contained_answer older newer ≡ decided true)
    (known : declares older (options_type r) ≡ true) where
  pub calls-read : (before after : List ℕ) (a : Answer) → Answered (resolve_bytes newer r) before after a → (n : ℕ) → a ≡ done_with n
      → (room left : List ℕ) (b : Answer) → Answered (listing older (options_type r) (take n after)) room left b
      → OldReads older newer r (take n after) room left b
  calls-read = demand.old-reads older newer r octets octets' clear clear' inside known

-- ======== The three demands
-- 1. Every sheet, request or byte string gets an answer from 01's table. A refusal writes nothing to lent memory; NoRoom comes only when all
-- else has passed. (Of every call, o being what it comes to.)
pub demand-1 : {A : Type 0} (o : Outcome A) (before after : List A) (a : Answer) → Answered o before after a → FromTable o before after a
demand-1 o before after a = demands.from-table before after a o

-- 2. Lookup, bytes and the listing are those of the protobuf encoding document and of 01's search rule. An extension part that is reached
-- gets ExtensionNotFound exactly when none of 01's scopes at its candidate paths declares that name. (That the code is these definitions is
-- the contract of each call; that they equal the crate's is compared, and stands in docs/.)
pub demand-2 : (s : List ℕ) → ByRule s
demand-2 = demands.by-rule

-- 3. Take two clean sheets, the older contained in the newer and declaring the options type. Bytes written for a request under the newer,
-- listed under the older into enough room, are never refused. The list is the newer's typed records in order, as 01's steps make them from
-- the request, save that each number the older doesn't declare at that message is marked unknown and what lies inside it is left out. Every
-- other record keeps type, number and value.
pub demand-3 : (older newer r : List ℕ) → Bytes newer → Bytes r → CleanSheet older → CleanSheet newer → contained older newer ≡ true
    → declares older (options_type r) ≡ true → (x : Recs) → resolving newer r ≡ records x → ListedUnder older (options_type r) x
demand-3 = demand.listed-under
