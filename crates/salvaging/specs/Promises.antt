-- What the theorems promise of salvage, as records and under names.
use Rattle.std.specs.Prelude.{◌≡◌, true, List, [], ◌∷◌, ◌⊎◌, ℕ, ◌+◌, ◌*◌, ◌≤◌, ◌<◌, length, get_or, take}
use Rattle.std.proofs.Math.Option.{some}
use Rattle.bits.specs.declared.Refusal.TheVariants.{TooLong, EndsEarly, Reserved, Second, Early, PastElement, NoFit}
use Rattle.bits.specs.Refusals.{number_of}
use Rattle.bits.specs.Language.{Res, ok, no, Bits, slice, run, number, bit, past_payload}
use Rattle.bits.specs.Writes.{listed}
use Rattle.oamd.specs.declared.Frame.{Frame}
use Rattle.oamd.specs.declared.Gone.{Gone}
use Rattle.oamd.specs.Tables.{most_bytes, most_elements}
use Rattle.oamd.specs.Element.{State, frame}
use Rattle.oamd.specs.Payload.{Payload, header, object_audio_metadata_payload, tables}
use Rattle.oamd.specs.Sift.{Sieve, sieve}
use Rattle.oamd.specs.Answer.{housed, reading, missing_of}
use Rattle.reader.specs.Sifts.{no_gone}
use Rattle.demands.specs.Terms.{parsed}
use Rattle.demands.specs.Skeleton.{Body, body, outline, is_known}
use Rattle.salvaging.specs.Salvage.{left, remaining, not_salvaged, salvaged_to, salvaging}

-- the header and the element count of the payload s are read, and x is what salvage makes of it
abbrev pub Sieved : List ℕ → Sieve → Type 0
Sieved s x = sieve (bit s) (8 * length s) ≡ ok x x.body

-- the elements that are dropped of it
abbrev pub gone_of : Sieve → List Gone
gone_of x = x.sifting.gone

-- ---- lies-in: the element that is dropped

-- The refusal r at the place pl of an element from one bit up to before another: it is 5, 6, 7 or 8. The place of 5, 6 and 7 is one of the element's bits, that of 6 and 7 its first;
-- that of 8 is one of its bits but the first, or the first bit behind it. So a refusal and its place tell which element is meant.
pub record Lies (from to r pl : ℕ) : Type 0 where
  pub least : number_of Reserved ≤ r
  pub most : r ≤ number_of PastElement
  pub after : from ≤ pl
  pub before : pl ≤ to
  pub behind : pl ≡ to → r ≡ number_of PastElement
  pub inside : r ≡ number_of PastElement → from < pl
  pub second : r ≡ number_of Second → pl ≡ from
  pub early : r ≡ number_of Early → pl ≡ from

-- What is dropped is a whole element of a known kind, under its own id, and its refusal lies in it.
pub record LiesIn (s : List ℕ) (x : Sieve) (g : Gone) : Type 0 where
  pub is : Frame
  pub whole : run (frame x.header.alternate) (bit s) g.from.0 (8 * length s) past_payload ≡ ok is g.to.0
  pub known : is_known is.kind ≡ true
  pub named : g.id ≡ number (slice (bit s) g.from.0 4)
  pub lies : Lies g.from.0 g.to.0 g.refusal g.place.0

-- they stand one behind the other from a bit on, up to before another
pub data InOrder : ℕ → List Gone → ℕ → Type 0 where
  none : {at e : ℕ} → at ≤ e → InOrder at [] e
  one : {at e : ℕ} (g : Gone) (gs : List Gone) → at ≤ g.from.0 → g.from.0 < g.to.0 → InOrder g.to.0 gs e → InOrder at (g ∷ gs) e

-- ---- as-asked: reading, dropping, and reading again

-- what a reading of bits, whole bytes or not, gives
abbrev pub reads : List ℕ → Res Payload
reads l = run object_audio_metadata_payload (listed l) 0 (length l) past_payload

-- what is left of the payload s when the first i of its elements that are dropped are out
abbrev pub left_of : List ℕ → Sieve → ℕ → List ℕ
left_of s x i = left (bit s) (8 * length s) x (take i (gone_of x))

-- bits are refused with r, m bits missing, at the place which was pl in the payload s as it came, before bits were taken out
pub record RefusedAs (s l : List ℕ) (r pl m : ℕ) : Type 0 where
  pub place : ℕ
  pub refused : reads l ≡ no r place m
  pub shorter : length l ≤ 8 * length s
  pub was : place + 8 * length s ≡ pl + length l

-- The first reading is of the payload as it came. Each reading but the last is refused as the next element that is dropped; that element is out in the reading behind it, and the
-- count is one less. The last reads what the kept elements give, or is refused, and then salvage is.
pub record AsAsked (s : List ℕ) (x : Sieve) : Type 0 where
  pub first : left_of s x 0 ≡ slice (bit s) 0 (8 * length s)
  pub each : (i : ℕ) → i < length (gone_of x)
      → (m : ℕ) × RefusedAs s (left_of s x i) (get_or (gone_of x) i no_gone).refusal (get_or (gone_of x) i no_gone).place.0 m
  pub accepted : (st : State) (to : ℕ) → x.sifting.last ≡ ok st to
      → (end : ℕ) × (reads (left_of s x (length (gone_of x))) ≡ ok (record { programme = x.header.programme; known = st.known; unknown = st.unknown }) end)
  pub refused : (r pl m : ℕ) → x.sifting.last ≡ no r pl m → RefusedAs s (left_of s x (length (gone_of x))) r pl m

-- ---- remains: what the output reads to

-- Of the elements xs of a payload, from the bit at on, ys are left when those that stand where the dropped ones did are out.
pub data Kept (alternate : ℕ) (b : Bits) (e : ℕ) : ℕ → List Body → List Gone → List Body → Type 0 where
  end : {at : ℕ} → Kept alternate b e at [] [] []
  stays : {at to : ℕ} (x : Body) {xs ys : List Body} {gs : List Gone} → run (body alternate) b at e past_payload ≡ ok x to → Kept alternate b e to xs gs ys
      → Kept alternate b e at (x ∷ xs) gs (x ∷ ys)
  goes : {at to : ℕ} (x : Body) (g : Gone) {xs ys : List Body} {gs : List Gone} → run (body alternate) b at e past_payload ≡ ok x to → g.from.0 ≡ at → g.to.0 ≡ to
      → Kept alternate b e to xs gs ys → Kept alternate b e at (x ∷ xs) (g ∷ gs) ys

-- The payload s, salvaged, is the bytes that are written: they carry its header and its kept elements, are accepted, and read to the tables of what these give, in all buffers.
pub record Remains (s written : List ℕ) (x : Sieve) : Type 0 where
  pub sieved : Sieved s x
  pub state : State
  pub elements : List Body
  pub kept : List Body
  pub carried : outline s ≡ some (record { header = x.header; elements = elements })
  pub left : Kept x.header.alternate (bit s) (8 * length s) x.body elements (gone_of x) kept
  pub carries : outline written ≡ some (record { header = x.header; elements = kept })
  pub to : ℕ
  pub read : parsed written ≡ ok (record { programme = x.header.programme; known = state.known; unknown = state.unknown }) to
  pub tables : (n : ℕ) (buffer trim : List ℕ)
      → reading n written buffer trim ≡ housed n buffer trim (tables x.header.programme state.known) state.unknown

-- what an accepted salvage comes to
pub record Salvages (s out : List ℕ) : Type 0 where
  pub short : length s ≤ most_bytes
  pub sieve : Sieve
  pub remains : Remains s (remaining s sieve) sieve
  pub room : length (remaining s sieve) ≤ length out
  pub few : length (gone_of sieve) ≤ sieve.count
  pub most : sieve.count ≤ most_elements
  pub fewer : length (remaining s sieve) ≤ length s
  pub answers : salvaging s out ≡ salvaged_to out (gone_of sieve) (remaining s sieve)

-- every entry is a byte
abbrev pub Bytes : List ℕ → Type 0
Bytes s = (i : ℕ) → get_or s i 0 < 256

-- The payload s comes back as the same bytes, and nothing is dropped.
abbrev pub SameBack : List ℕ → Type 0
SameBack s = (out : List ℕ) → length s ≤ length out → salvaging s out ≡ salvaged_to out [] s

-- ---- refused exactly when

-- the header of a payload, or its element count, is refused: by the first reading, with 2, 3 or 4, or with 5 in the program assignment
pub record Unheaded (s : List ℕ) (r pl m : ℕ) : Type 0 where
  pub sieved : sieve (bit s) (8 * length s) ≡ no r pl m
  pub read : parsed s ≡ no r pl m
  pub numbers : (r ≡ 2) ⊎ ((r ≡ 3) ⊎ ((r ≡ 4) ⊎ (r ≡ 5)))
  pub reserved : r ≡ number_of Reserved → run header (bit s) 0 (8 * length s) past_payload ≡ no r pl m

-- a reading, of what is left when all that can be dropped is, ends early
pub record EndsLater (s : List ℕ) (r pl m : ℕ) : Type 0 where
  pub sieve : Sieve
  pub sieved : Sieved s sieve
  pub last : sieve.sifting.last ≡ no r pl m
  pub read : RefusedAs s (left_of s sieve (length (gone_of sieve))) r pl m
  pub early : r ≡ number_of EndsEarly

-- Salvage is refused: a payload of more than 4,096 bytes with 1; then by its header, or by a reading that ends early; then with 11 for want of room, the bytes needed as the place.
-- All else is 0, and the buffer is as it came.
pub data RefusedWhen (s out : List ℕ) : Type 0 where
  too_long : most_bytes < length s → salvaging s out ≡ not_salvaged out (number_of TooLong) (length s) 0 → RefusedWhen s out
  unheaded : length s ≤ most_bytes → (r pl m : ℕ) → Unheaded s r pl m → salvaging s out ≡ not_salvaged out r pl (missing_of r m) → RefusedWhen s out
  ends-later : length s ≤ most_bytes → (r pl m : ℕ) → EndsLater s r pl m → salvaging s out ≡ not_salvaged out r pl (missing_of r m) → RefusedWhen s out
  no_room : length s ≤ most_bytes → (x : Sieve) → Remains s (remaining s x) x → length out < length (remaining s x)
      → salvaging s out ≡ not_salvaged out (number_of NoFit) (length (remaining s x)) 0 → RefusedWhen s out

-- What the number and the place that are answered tell; there is no other number. Since `when` leaves no other case, each is answered exactly when this holds.
pub record Tells (s out : List ℕ) (number place : ℕ) : Type 0 where
  pub accepted : number ≡ 0 → Salvages s out
  pub long : number ≡ 1 → (most_bytes < length s) × (place ≡ length s)
  pub early : number ≡ 2 → (m : ℕ) × (Unheaded s number place m ⊎ EndsLater s number place m)
  pub headed : 3 ≤ number → number ≤ 5 → (m : ℕ) × Unheaded s number place m
  pub roomless : 6 ≤ number → (number ≡ 11) × ((x : Sieve) × Remains s (remaining s x) x × (length out < length (remaining s x)) × (place ≡ length (remaining s x)))
