-- From the end of each line on a catalogue can be finished: by what a text can hold, whatever was read before.
use Rattle.std.specs.Prelude.{◌≡◌, Bool, true, false, not, List, [], ◌∷◌, ◌++◌, ℕ, zero, suc, ◌+◌, ◌*◌, ◌≤◌, ◌<◌, eqb, leb, get_or, set}
use Rattle.std.proofs.Math.Path.{refl}
use Rattle.std.proofs.Common.{◌∙◌, append_assoc, append-nil, arith, eq-eqb, ne_eqb, leb-true}
use Rattle.bits.specs.Language.{pick, between}
use Rattle.form.specs.Lemmas.Tests.{all_below, below}
use Rattle.oamd.specs.Tables.{record_bytes, most_objects, most_blocks}
use Rattle.keys.specs.Names.{refusal_key, objects_key, blocks_key, frame_key, start_key, ramp_key}
use Rattle.text.specs.Numerals.{decimal}
use Rattle.text.specs.Lines.{comma, newline}
use Rattle.catalogue.specs.Fields.{fields, field_of, most_frame, most_start, most_ramp}
use Rattle.catalogue.specs.Sheets.{Change, Sheet, rows_behind}
use Rattle.catalogue.specs.Text.{is_full}
use Rattle.catalogue.specs.Scan.{Got, got, bad, S, give, fail, word, peek, number, end_line, whether, at_end, ◌>>=◌, ◌>>◌, after, and_then, run}
use Rattle.catalogue.specs.Back.{value, check, field_back, fields_back, entry_back, no_object, next_object}
use Rattle.catalogue.specs.Back.{entries_back, rows_here, update_back, updates_back, refused_back, accepted_back, sheet_back, sheets_back}
use Rattle.catalogue.specs.NumeralBack.{NoDigit}
use Rattle.catalogue.specs.Lemmas.Lines.{behind, InLine}
use Rattle.catalogue.specs.Lemmas.Keys.{key_in-line}
use Rattle.catalogue.specs.Lemmas.Reads.{Reads, Any, r-give, r-word, r_peek, r-number, r_end-line, r_there, r-bind, r-check, r_last}
use Rattle.catalogue.specs.Lemmas.EntriesRead.{NoEntry, head_of, NextEnds, next-reads}
use Rattle.catalogue.specs.Lemmas.Spells.{Spells, s-then, s-any}
use Rattle.catalogue.specs.Local.{Lined}

-- ---- texts that finish

-- a text that q reads, where no entry comes behind it
pub record Finish {A : Type 0} (q : S A) : Type 0 where
  pub text : List ℕ
  pub value : A
  pub reads : Reads q text value NoEntry

-- one that begins no entry itself
record Quiet {A : Type 0} (q : S A) : Type 0 where
  finish : Finish q
  quiet : (s : List ℕ) → NoEntry s → NoEntry (finish.text ++ s)

-- nothing is left to be read
abbrev AtOnce : {A : Type 0} → S A → Type 0
AtOnce {A} q = (a : A) × Reads q [] a Any

finish-bind : {A B : Type 0} (q : S A) (k : A → S B) → Finish q → ((a : A) → Quiet (k a)) → Finish (q >>= k)
finish-bind q k f g =
    let h = g f.value in
    record { text = f.text ++ h.finish.text; value = h.finish.value; reads = r-bind f.reads h.quiet h.finish.reads }

quiet_bind : {A B : Type 0} (q : S A) (k : A → S B) → Quiet q → ((a : A) → Quiet (k a)) → Quiet (q >>= k)
unfolding after finish-bind
quiet_bind q k f g =
    let h = g f.finish.value in
    record {
      finish = finish-bind q k f.finish g;
      quiet = λ s x. rw (append_assoc f.finish.text h.finish.text s) (f.quiet (h.finish.text ++ s) (h.quiet s x));
    }

finish-once : {A B : Type 0} (q : S A) (k : A → S B) → AtOnce q → ((a : A) → Finish (k a)) → Finish (q >>= k)
finish-once q k (a, r) g = let h = g a in record { text = h.text; value = h.value; reads = r-bind r (λ s x. tt) h.reads }

finish-give : {A B : Type 0} (q : S A) (f : A → B) → Finish q → Finish (q >>= λ a. give (f a))
finish-give q f h = record { text = h.text; value = f h.value; reads = r_last h.reads (r-give (f h.value)) }

quiet-give : {A B : Type 0} (q : S A) (f : A → B) → Quiet q → Quiet (q >>= λ a. give (f a))
unfolding finish-give
quiet-give q f h = record { finish = finish-give q f h.finish; quiet = h.quiet }

finished : {A : Type 0} (a : A) → Finish (give a)
finished a = record { text = []; value = a; reads = r-give a }

-- what is left of the end of a line
ended : AtOnce (give {A = Unit {0}} tt)
ended = (tt, r-give tt)

-- steps can be parted otherwise
then-assoc : {A B C : Type 0} (x : Got A) (k : A → S B) (l : B → S C)
    → and_then x (λ a n s. and_then (run (k a) n s) (λ b m r. run (l b) m r)) ≡ and_then (and_then x (λ a n s. run (k a) n s)) (λ b m r. run (l b) m r)
then-assoc (got a n s) k l = refl
then-assoc (bad n) k l = refl

finish-assoc : {A B C : Type 0} (p : S A) (k : A → S B) (l : B → S C) → Finish ((p >>= k) >>= l) → Finish (p >>= λ a. (k a >>= l))
unfolding run
finish-assoc p k l h =
    record { text = h.text; value = h.value; reads = record { reads = λ n s q. then-assoc (run p n (h.text ++ s)) k l ∙ h.reads.reads n s q } }

-- ---- an entry, with the least that each field can be

abbrev ranged : ℕ → Bool
ranged k = leb (field_of k).least (field_of k).most

all-ranged : all_below record_bytes ranged ≡ true
unfolding fields field_of
all-ranged = refl

abbrev least_fields : ℕ → ℕ → List ℕ
least_fields k zero = []
least_fields k (suc m) = ((comma ∷ (field_of k).key) ++ decimal (field_of k).least) ++ least_fields (suc k) m

no_digit : (k m : ℕ) (s : List ℕ) → NoDigit s → NoDigit (least_fields k m ++ s)
no_digit k zero s h = h
no_digit k (suc m) s h = refl

fields-finish : (k at m : ℕ) (rows : List ℕ) → k + m ≤ record_bytes → (now : List ℕ) × Reads (fields_back true k at m rows) (least_fields k m) now NoDigit
unfolding field_back fields_back
fields-finish k at zero rows h = (rows, r-give rows)
fields-finish k at (suc m) rows h =
    let least = (field_of k).least in
    let l = leb-true least (field_of k).most (below record_bytes ranged all-ranged k (omega arith)) in
    let (now, r) = fields-finish (suc k) (suc at) m (set rows at least) (omega arith) in
    (now, r-bind (r_there (comma ∷ (field_of k).key) (key_in-line k (omega arith)) (r_last (r-number {v = least} (omega arith) l) (r-check refl (r-give _)))) (no_digit (suc k) m) r)

-- what stands behind `object=` and its number
unfoldable least_entry : List ℕ
least_entry = least_fields 0 record_bytes ++ (newline ∷ [])

entry-finish : (j : ℕ) (rows : List ℕ) → (now : List ℕ) × Reads (entry_back true j rows) least_entry now Any
unfolding entry_back least_entry
entry-finish j rows =
    let (now, r) = fields-finish 0 (record_bytes * j) record_bytes rows (omega arith) in
    (now, r-bind (r_peek comma) (λ s q. refl) (r-bind r (λ s q. refl) (r_last r_end-line (r-give now))))

number-ends : (j : ℕ) → j < no_object → (t s : List ℕ) → NextEnds j ((least_entry ++ t) ++ s)
unfolding least_entry
number-ends j h t s = rw (ne_eqb j no_object (λ e. omega arith))

-- ---- the entries of an update: every one, or none

idle : (j m : ℕ) (rows : List ℕ) → j + m ≤ no_object → Reads (entries_back false j m no_object rows) [] rows NoEntry
unfolding entries_back
idle j zero rows h = r-give rows
idle j (suc m) rows h = rw (ne_eqb no_object j (λ e. omega arith)) (idle (suc j) m rows (omega arith))

entries-finish : (full : Bool) (j m : ℕ) (rows : List ℕ) → j + m ≤ no_object → Finish (next_object >>= λ next. entries_back full j m next rows)
unfolding entries_back
entries-finish false j m rows h = record { text = []; value = rows; reads = r_last (next-reads no_object (omega arith)) (idle j m rows h) }
entries-finish true j zero rows h = record { text = []; value = rows; reads = r_last (next-reads no_object (omega arith)) (r-give rows) }
entries-finish true j (suc m) rows h =
    let (now, r) = entry-finish j rows in
    let rest = entries-finish true (suc j) m now (omega arith) in
    record {
      text = head_of j ++ (least_entry ++ rest.text);
      value = rest.value;
      reads = r-bind (next-reads j (omega arith)) (λ s q. number-ends j (omega arith) rest.text s) (rw (eq-eqb j j refl) (r-bind r (λ s q. tt) rest.reads));
    }

entries-then : {A : Type 0} (full : Bool) (objects : ℕ) (rows : List ℕ) (f : List ℕ → A) → objects ≤ no_object
    → Finish (next_object >>= λ next. (entries_back full 0 objects next rows >>= λ now. give (f now)))
entries-then full objects rows f h =
    finish-assoc next_object (λ next. entries_back full 0 objects next rows) (λ now. give (f now)) (finish-give _ f (entries-finish full 0 objects rows (omega arith)))

-- ---- an update, and those behind it

abbrev change : ℕ → ℕ → List ℕ → Change
change start ramp rows = record { start = start; ramp = ramp; rows = rows }

in-line : (InLine start_key) × (InLine (comma ∷ [])) × (InLine ramp_key)
unfolding behind
in-line = (λ n. refl, λ n. refl, λ n. refl)

update-finish : (objects : ℕ) (before : List ℕ) → objects ≤ most_objects → Quiet (update_back objects before)
unfolding update_back after
update-finish objects before h =
    let rest = entries-then (is_full objects before) objects (rows_here objects before) (change 0 0) (omega arith) in
    record {
      finish = record {
        text = (start_key ++ decimal 0) ++ ((comma ∷ []) ++ ((ramp_key ++ decimal 0) ++ ((newline ∷ []) ++ rest.text)));
        value = rest.value;
        reads =
            r-bind (r-bind (r-word start_key in-line.0) (λ s q. tt) (r-number {v = 0} (omega arith) (omega arith))) (λ s q. refl)
            (r-bind (r-word (comma ∷ []) in-line.1) (λ s q. tt)
            (r-bind (r-bind (r-word ramp_key in-line.2) (λ s q. tt) (r-number {v = 0} (omega arith) (omega arith))) (λ s q. refl) (r-bind r_end-line (λ s q. tt) rest.reads)));
      };
      quiet = λ s q. refl;
    }

updates-finish : (objects m : ℕ) (before : List ℕ) → objects ≤ most_objects → Quiet (updates_back objects m before)
unfolding updates_back
updates-finish objects zero before h = record { finish = record { text = []; value = []; reads = r-give [] }; quiet = λ s q. q }
updates-finish objects (suc m) before h =
    quiet_bind (update_back objects before) _ (update-finish objects before h) (λ u. quiet-give (updates_back objects m u.rows) (λ us. u ∷ us) (updates-finish objects m u.rows h))

-- ---- the end of each line

lined_then : {A : Type 0} (p : S A) (Z Y : S A → Type 0) → Lined p Z → ((q : S A) → Z q → Y q) → Lined p Y
unfolding Lined
lined_then (give a) Z Y h f = tt
lined_then fail Z Y h f = tt
lined_then (word w) Z Y h f = h
lined_then (peek c) Z Y h f = tt
lined_then (number least most) Z Y h f = tt
lined_then end_line Z Y h f = f (give tt) h
lined_then (whether w p q) Z Y h f = (h.0, lined_then p Z Y h.1 f, lined_then q Z Y h.2 f)
lined_then (at_end p q) Z Y h f = (lined_then p Z Y h.0 f, lined_then q Z Y h.1 f)
lined_then (p >>= k) Z Y h f = (lined_then p _ _ h.0 (λ q z. f (q >>= k) z), s-then p _ _ h.1 (λ t a r x. lined_then (k a) Z Y x f))

lined-check : {A : Type 0} (t : Bool) (p : S A) (Z : S A → Type 0) → Lined p Z → Lined (check t p) Z
unfolding Lined
lined-check true p Z h = h
lined-check false p Z h = tt

lined-pick : {A : Type 0} (t : Bool) (p q : S A) (Z : S A → Type 0) → Lined p Z → Lined q Z → Lined (pick t p q) Z
lined-pick true p q Z f g = f
lined-pick false p q Z f g = g

lined-field : (Z : S (List ℕ) → Type 0) (full : Bool) (k at : ℕ) (rows : List ℕ) → k < record_bytes → Lined (field_back full k at rows) Z
unfolding Lined Spells field_back
lined-field Z full k at rows h =
    (key_in-line k h, (tt, λ v r l g. lined-check (pick full true (not (eqb (get_or rows at 0) v))) (give (set rows at v)) Z tt), lined-check (not full) (give rows) Z tt)

lined-fields : (Z : S (List ℕ) → Type 0) (full : Bool) (k at m : ℕ) (rows : List ℕ) → k + m ≤ record_bytes → Lined (fields_back full k at m rows) Z
unfolding Lined fields_back
lined-fields Z full k at zero rows h = tt
lined-fields Z full k at (suc m) rows h =
    (lined-field _ full k at rows (omega arith), s-any (field_back full k at rows) _ (λ t now r. lined-fields Z full (suc k) (suc at) m now (omega arith)))

lined-entry : (full : Bool) (j : ℕ) (rows : List ℕ) → Lined (entry_back full j rows) AtOnce
unfolding Lined Spells entry_back
lined-entry full j rows = (
  tt,
  λ r. (
    lined-fields _ full 0 (record_bytes * j) record_bytes rows (omega arith),
    s-any (fields_back full 0 (record_bytes * j) record_bytes rows) _ (λ t now r. ((now, r_last (r-give tt) (r-give now)), λ r. tt)),
  ),
)

-- a rule for each step
module _ {B : Type 0} (Z : S B → Type 0) where
  lined-done : (a : B) → Lined (give a) Z
  unfolding Lined
  lined-done a = tt

  lined-whether : (w : List ℕ) (p q : S B) → InLine w → Lined p Z → Lined q Z → Lined (whether w p q) Z
  unfolding Lined
  lined-whether w p q h f g = (h, f, g)

  lined-bind : {A : Type 0} (p : S A) (k : A → S B) → Lined p (λ q. Z (q >>= k)) → ((a : A) → Lined (k a) Z) → Lined (p >>= k) Z
  unfolding Lined
  lined-bind p k h f = (h, s-any p _ (λ t a r. f a))

  lined_next : (k : ℕ → S B) → ((next : ℕ) → Lined (k next) Z) → Lined (next_object >>= k) Z
  unfolding Lined behind
  lined_next k f = ((λ n. refl, tt, tt), s-any next_object _ (λ t next r. f next))

  lined-word : (w : List ℕ) (p : S B) → InLine w → Lined p Z → Lined (word w >> p) Z
  unfolding Lined Spells
  lined-word w p h f = (h, λ r. f)

  lined-value : (key : List ℕ) (least most : ℕ) (k : ℕ → S B) → InLine key → ((v : ℕ) → least ≤ v → v ≤ most → Lined (k v) Z) → Lined (value key least most >>= k) Z
  unfolding Lined Spells
  lined-value key least most k h f = ((h, λ r. tt), λ r v rest l g e. f v l g)

  lined_end : (p : S B) → Z (give {A = Unit {0}} tt >> p) → Lined p Z → Lined (end_line >> p) Z
  unfolding Lined Spells
  lined_end p z f = (z, λ r. f)

lined-give : {A B : Type 0} (p : S A) (f : A → B) → Lined p Finish → Lined (p >>= λ a. give (f a)) Finish
lined-give p f h = lined-bind Finish p _ (lined_then p Finish _ h (λ q g. finish-give q f g)) (λ a. lined-done Finish (f a))

lined-entries : (full : Bool) (j m next : ℕ) (rows : List ℕ) → j + m ≤ no_object → Lined (entries_back full j m next rows) Finish
unfolding entries_back
lined-entries full j zero next rows h = lined-check (eqb next no_object) (give rows) Finish (lined-done Finish rows)
lined-entries full j (suc m) next rows h =
    lined-pick (eqb next j) _ _ Finish
    (lined-bind Finish (entry_back full j rows) _
    (lined_then (entry_back full j rows) AtOnce _ (lined-entry full j rows) (λ q o. finish-once q _ o (λ now. entries-finish full (suc j) m now (omega arith))))
    (λ now. lined_next Finish _ (λ then. lined-entries full (suc j) m then now (omega arith))))
    (lined-check (not full) _ Finish (lined-entries full (suc j) m next rows (omega arith)))

lined-update : (objects : ℕ) (before : List ℕ) → objects ≤ most_objects → Lined (update_back objects before) Finish
unfolding update_back behind
lined-update objects before h =
    let full = is_full objects before in
    let rows = rows_here objects before in
    lined-value Finish start_key 0 most_start _ (λ n. refl) λ start l g. lined-word Finish (comma ∷ []) _ (λ n. refl)
    (lined-value Finish ramp_key 0 most_ramp _ (λ n. refl) λ ramp l g. lined_end Finish _
    (finish-once (give tt) _ ended (λ _. entries-then full objects rows (change start ramp) (omega arith)))
    (lined_next Finish _ (λ next. lined-give (entries_back full 0 objects next rows) (change start ramp) (lined-entries full 0 objects next rows (omega arith)))))

lined-updates : (objects m : ℕ) (before : List ℕ) → objects ≤ most_objects → Lined (updates_back objects m before) Finish
unfolding updates_back
lined-updates objects zero before h = lined-done Finish []
lined-updates objects (suc m) before h =
    lined-bind Finish (update_back objects before) _
    (lined_then (update_back objects before) Finish _ (lined-update objects before h)
    (λ q f. finish-bind q _ f (λ u. quiet-give (updates_back objects m u.rows) (λ us. u ∷ us) (updates-finish objects m u.rows h))))
    (λ u. lined-give (updates_back objects m u.rows) (λ us. u ∷ us) (lined-updates objects m u.rows h))

lined-refused : (frame : ℕ) → Lined (refused_back frame) Finish
unfolding Lined Spells refused_back
lined-refused frame =
    (tt, λ v r l g. (lined-check (not (between 9 11 v)) end_line _ (finish-once (give tt) _ ended (λ _. finished _)), s-any (check (not (between 9 11 v)) end_line) _ (λ t a r. tt)))

lined-accepted : (before : List ℕ) (frame : ℕ) → Lined (accepted_back before frame) Finish
unfolding accepted_back behind
lined-accepted before frame =
    lined-value Finish objects_key 1 most_objects _ (λ n. refl) λ objects l g. lined-word Finish (comma ∷ []) _ (λ n. refl)
    (lined-value Finish blocks_key 0 most_blocks _ (λ n. refl) λ blocks l' g'. lined_end Finish _
    (finish-once (give tt) _ ended (λ _. finish-give (updates_back objects blocks before) _ (updates-finish objects blocks before g).finish))
    (lined-give (updates_back objects blocks before) _ (lined-updates objects blocks before g)))

lined_sheet : (before : List ℕ) → Lined (sheet_back before) Finish
unfolding sheet_back behind
lined_sheet before =
    lined-value Finish frame_key 0 most_frame _ (λ n. refl) λ frame l g. lined-word Finish (comma ∷ []) _ (λ n. refl)
    (lined-whether Finish refusal_key _ _ (λ n. refl) (lined-refused frame) (lined-accepted before frame))

-- ---- frames

-- what a reader gives, and no bad line
abbrev pub IsGot : {A : Type 0} → Got A → Type 0
IsGot (got a n s) = Unit {0}
IsGot (bad k) = ⊥

-- there is a text that q accepts, from whatever line on
abbrev pub Some : {A : Type 0} → S A → Type 0
Some q = (u : List ℕ) × ((n : ℕ) → IsGot (run q n u))

pub none_left : (m : ℕ) (before : List ℕ) (n : ℕ) → run (sheets_back m before) n [] ≡ got [] n []
unfolding run sheets_back
none_left zero before n = refl
none_left (suc m) before n = refl

got-give : {A B : Type 0} (x : Got A) (f : A → B) → IsGot x → IsGot (and_then x (λ a n s. got (f a) n s))
got-give (got a n s) f h = tt
got-give (bad k) f h = h

some-give : {A B : Type 0} (q : S A) (f : A → B) → Some q → Some (q >>= λ a. give (f a))
unfolding run
some-give q f (u, g) = (u, λ n. got-give (run q n u) f (g n))

some-sheets : (m : ℕ) (before : List ℕ) (q : S Sheet) → Finish q → Some (q >>= λ x. (sheets_back m (rows_behind before x.updates) >>= λ xs. give (x ∷ xs)))
unfolding run after
some-sheets m before q f = (
  f.text,
  λ n.
      let e = append-nil f.text in
      let r = f.reads.reads n [] refl in
      rw (rw e at r, none_left m (rows_behind before f.value.updates) (behind n f.text)) tt,
)

pub lined-sheets : (m : ℕ) (before : List ℕ) → Lined (sheets_back m before) Some
unfolding Lined sheets_back
lined-sheets zero before = (tt, tt)
lined-sheets (suc m) before = (
  tt,
  (
    lined_then (sheet_back before) Finish _ (lined_sheet before) (some-sheets m before),
    s-any (sheet_back before) _ λ t x r.
        let here = rows_behind before x.updates in
        (lined_then (sheets_back m here) Some _ (lined-sheets m here) (λ q f. some-give q (λ xs. x ∷ xs) f), s-any (sheets_back m here) _ (λ t xs r. tt)),
  ),
)
