-- What salvage leaves of a payload: no more bytes than there were, which carry its header and its kept elements and read to the tables of what these give.
use Rattle.std.specs.Prelude.{◌≡◌, List, ◌++◌, ℕ, ◌-◌, ◌*◌, ◌≤◌, length}
use Rattle.std.proofs.Common.{sym, ap, ap₂, ◌∙◌, subst, arith}
use Rattle.std.proofs.Math.Option.{some}
use Rattle.std.proofs.Math.Seq.{take-length}
use Rattle.bits.specs.Language.{ok, slice, P, run, bit, past_payload}
use Rattle.bits.specs.Steps.{bind_is, give_is}
use Rattle.bits.specs.Laws.{local, still}
use Rattle.bits.specs.Writes.{Binary, listed, to_bytes}
use Rattle.bits.specs.Lists.{binary-slice}
use Rattle.bits.specs.Bytes.{length-to_bytes, bytes_long, bytes-hold, bit_lt}
use Rattle.bits.specs.Terms.{taken}
use Rattle.oamd.specs.declared.Gone.{Gone}
use Rattle.oamd.specs.Tables.{most_bytes}
use Rattle.oamd.specs.Element.{State}
use Rattle.oamd.specs.Payload.{Payload, header, object_audio_metadata_payload}
use Rattle.oamd.specs.Sift.{Sieve}
use Rattle.demands.specs.Terms.{parsed}
use Rattle.demands.specs.Skeleton.{outline_payload, given, outline}
use Rattle.demands.specs.Assembly.{Exactly, Head, all_bodies, count_bits, payload_of}
use Rattle.demands.specs.Lemmas.Reading.{reading_ok}
use Rattle.demands.specs.Lemmas.Assembled.{outline_is, piece}
use Rattle.salvaging.specs.Salvage.{left, remaining}
use Rattle.salvaging.specs.Promises.{Sieved, gone_of, reads, Remains}
use Rattle.salvaging.specs.AsAsked.{as-asked}
use Rattle.salvaging.specs.Lemmas.Order.{Opened, opened, in_order}
use Rattle.salvaging.specs.Lemmas.Keeping.{left-binary, left-fewer, Passes, passes}

-- What is left has no more bytes than there were.
pub fewer : (s : List ℕ) (x : Sieve) → Sieved s x → length (remaining s x) ≤ length s
unfolding remaining
fewer s x h =
    let l : List ℕ = left (bit s) (8 * length s) x (gone_of x) in
    omega (arith, length-to_bytes l, left-fewer s x h (gone_of x) (in_order s x h))

-- ---- what it carries

-- what a pass over the elements of the payload s, which comes to its end, keeps of them
abbrev PassesOf : List ℕ → Sieve → ℕ → Type 0
PassesOf s x to = Passes x.header.alternate x.count (bit s) x.body (8 * length s) (gone_of x) to

abbrev head_of : (s : List ℕ) (x : Sieve) → Opened s x → Head
head_of s x o = record {
  bits = slice (bit s) 0 x.head;
  binary = binary-slice (bit s) 0 x.head (bit_lt s);
  is = x.header;
  whole = subst (λ (k : ℕ). Exactly header (slice (bit s) 0 k) x.header) (omega arith)
      (piece header (bit s) 0 (8 * length s) past_payload o.header_read (omega arith));
}

outline_of : (s : List ℕ) (x : Sieve) (o : Opened s x) {to : ℕ} (y : PassesOf s x to) → outline s ≡ some (record { header = x.header; elements = y.all })
unfolding outline outline_payload
outline_of s x o {to} y =
    let b = bit s in
    let e : ℕ = 8 * length s in
    ap given (bind_is _ _ b 0 e past_payload o.header_read ∙ bind_is _ _ b x.head e past_payload o.count-read
    ∙ bind_is _ _ b x.body e past_payload y.ran ∙ give_is _ b to e past_payload)

-- it is put together of the header, the kept elements, and what stood behind the last element
put-together : (s : List ℕ) (x : Sieve) (o : Opened s x) {to : ℕ} (y : PassesOf s x to)
    → remaining s x ≡ payload_of (head_of s x o) y.kept (taken (bit s) to (8 * length s))
unfolding remaining left payload_of
put-together s x o y =
    let many : x.count - length (gone_of x) ≡ length y.kept = omega (arith, y.many) in
    ap (λ (l : List ℕ). to_bytes (slice (bit s) 0 x.head ++ l)) (ap₂ (λ (u v : List ℕ). u ++ v) (ap count_bits many) y.bits)

outline_left : (s : List ℕ) (x : Sieve) (o : Opened s x) {to : ℕ} (y : PassesOf s x to)
    → outline (remaining s x) ≡ some (record { header = x.header; elements = all_bodies y.kept })
outline_left s x o {to} y =
    let e : ℕ = 8 * length s in
    ap outline (put-together s x o y)
    ∙ outline_is (head_of s x o) y.kept (taken (bit s) to e) (omega (arith, y.many, o.most)) (binary-slice (bit s) to (e - to) (bit_lt s))

-- ---- what it reads to

-- what is read of bits is read of the bytes that hold them
bytes_read : {A : Type 0} (p : P A) (l : List ℕ) → Binary l → {v : A} {to : ℕ} → run p (listed l) 0 (length l) past_payload ≡ ok v to
    → run p (bit (to_bytes l)) 0 (8 * length (to_bytes l)) past_payload ≡ ok v to
bytes_read p l bin {v} {to} h =
    let start : 0 ≤ length l = omega arith in
    let fits = (local p (listed l) 0 (length l) past_payload h start).fits in
    still p (listed l) 0 (length l) past_payload h start (bit (to_bytes l)) (8 * length (to_bytes l)) past_payload
    (λ i j. sym (ap (bit (to_bytes l)) (omega arith) ∙ bytes-hold l bin i (omega arith))) (omega (arith, bytes_long l))

read_left : (s : List ℕ) (x : Sieve) → Sieved s x → {q : Payload} {to : ℕ} → reads (left (bit s) (8 * length s) x (gone_of x)) ≡ ok q to
    → parsed (remaining s x) ≡ ok q to
unfolding remaining
read_left s x h r = bytes_read object_audio_metadata_payload (left (bit s) (8 * length s) x (gone_of x)) (left-binary s x h (gone_of x)) r

-- What is left of a payload that is not refused carries its header and its kept elements, and reads to the tables of what these give.
pub remains : (s : List ℕ) (x : Sieve) → Sieved s x → (st : State) (to : ℕ) → x.sifting.last ≡ ok st to → length s ≤ most_bytes
    → Remains s (remaining s x) x
remains s x h st to last short =
    let o = opened s x h in
    let y = passes s x h st to last in
    let (end, r) = (as-asked s x h).accepted st to last in
    let all-out = ap (λ (gs : List Gone). reads (left (bit s) (8 * length s) x gs)) (take-length (gone_of x)) in
    let read = read_left s x h (sym all-out ∙ r) in
    record {
      sieved = h;
      state = st;
      elements = y.all;
      kept = all_bodies y.kept;
      carried = outline_of s x o y;
      left = y.left;
      carries = outline_left s x o y;
      to = end;
      read = read;
      tables = λ n buffer trim. reading_ok n (remaining s x) buffer trim (omega (arith, fewer s x h, short)) read;
    }
