-- Payloads put together: the bits of a header, the element count, whole elements one behind the other, and padding.
use Rattle.std.specs.Prelude.{◌≡◌, List, [], ◌∷◌, ◌++◌, ℕ, ◌-◌, ◌*◌, ◌≤◌, ltb, length}
use Rattle.bits.specs.Language.{ok, pick, slice, P, run, bit, past_payload}
use Rattle.bits.specs.Writes.{Binary, listed, to_bits, to_bytes}
use Rattle.oamd.specs.Tables.{most_elements}
use Rattle.oamd.specs.Payload.{Header, header}
use Rattle.demands.specs.Skeleton.{Body, body}

-- the reader p reads the bits l as the value v, from the first to the last and no further
abbrev pub Exactly : {A : Type 0} → P A → List ℕ → A → Type 0
Exactly p l v = run p (listed l) 0 (length l) past_payload ≡ ok v (length l)

-- the bits of a header
pub record Head : Type 0 where
  pub bits : List ℕ
  pub binary : Binary bits
  pub is : Header
  pub whole : Exactly header bits is

-- the bits of one element, known or unknown, of every size
pub record Element (alternate : ℕ) : Type 0 where
  pub bits : List ℕ
  pub binary : Binary bits
  pub is : Body
  pub whole : Exactly (body alternate) bits is

abbrev pub all_bits : {alternate : ℕ} → List (Element alternate) → List ℕ
all_bits [] = []
all_bits (x ∷ xs) = x.bits ++ all_bits xs

abbrev pub all_bodies : {alternate : ℕ} → List (Element alternate) → List Body
all_bodies [] = []
all_bodies (x ∷ xs) = x.is ∷ all_bodies xs

-- the element count takes 4 bits, and from 15 on 5 more
unfoldable pub count_bits : ℕ → List ℕ
count_bits n = pick (ltb n 15) (to_bits 4 n) (to_bits 4 15 ++ to_bits 5 (n - 15))

abbrev pub payload_bits : (h : Head) → List (Element h.is.alternate) → List ℕ → List ℕ
payload_bits h es padding = h.bits ++ (count_bits (length es) ++ (all_bits es ++ padding))

-- the bytes of these bits
unfoldable pub payload_of : (h : Head) → List (Element h.is.alternate) → List ℕ → List ℕ
payload_of h es padding = to_bytes (payload_bits h es padding)

-- The bytes s are so put together
pub record PutTogether (s : List ℕ) : Type 0 where
  pub head : Head
  pub elements : List (Element head.is.alternate)
  pub few : length elements ≤ most_elements
  pub padding : List ℕ
  pub binary : Binary padding
  pub together : slice (bit s) 0 (8 * length s) ≡ payload_bits head elements padding
