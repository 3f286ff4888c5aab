-- Records and trim tables of two buffers that are as long, from byte to byte.
use Rattle.std.specs.Prelude.{◌≡◌, refl, List, [], ◌∷◌, ℕ, zero, suc, ◌+◌, ◌*◌, ◌<◌, length, get_or, drop}
use Rattle.std.proofs.Common.{sym, ap, ap₂, subst, ◌∙◌, arith, length-take, length-drop, get_or-take, get_or-drop, ext_get_or}
use Rattle.std.proofs.Math.Decide.{ℕ_discrete}
use Rattle.oamd.specs.Tables.{record_stride, trim_fixed}
use Rattle.oamd.specs.Payload.{Payload}
use Rattle.oamd.specs.Answer.{Outcome}
use Rattle.sources.specs.Chain.{blocks_in}
use Rattle.sources.specs.Given.{gain_byte}
use Rattle.own.specs.Own.{byte_of, Stays, record_in, but, Kept}
use Rattle.own.specs.Chains.{chains}

same-but : (l l' : List ℕ) (n : ℕ) → length l ≡ length l' → ((x : ℕ) → x < length l → (x ≡ n → ⊥) → get_or l x 0 ≡ get_or l' x 0) → but n l ≡ but n l'
same-but [] [] n e h = refl
same-but [] (y ∷ ys) n e h = absurd (omega arith)
same-but (x ∷ xs) [] n e h = absurd (omega arith)
same-but (x ∷ xs) (y ∷ ys) zero e h = ap (λ (l : List ℕ). 0 ∷ l) (ext_get_or 0 xs ys (omega arith) (λ i l. h (suc i) (omega arith) (λ e. omega arith)))
same-but (x ∷ xs) (y ∷ ys) (suc n) e h =
    ap₂ (λ (a : ℕ) (l : List ℕ). a ∷ l) (h zero (omega arith) (λ e. omega arith))
    (same-but xs ys n (omega arith) (λ i l other. h (suc i) (omega arith) (λ e. other (omega arith))))

-- ---- records of two buffers that are as long

module _ (n i b : ℕ) (buffer buffer' : List ℕ) (long : length buffer ≡ length buffer') where
  byte_in : (buffer : List ℕ) (k : ℕ) → k < record_stride → get_or (record_in n i b buffer) k 0 ≡ byte_of n i b k buffer
  byte_in buffer k l = get_or-take record_stride (drop (record_stride * (i * n + b)) buffer) k 0 l ∙ get_or-drop (record_stride * (i * n + b)) buffer k 0

  byte-out : (k : ℕ) → k < length (record_in n i b buffer) → (k < record_stride → byte_of n i b k buffer ≡ byte_of n i b k buffer')
      → get_or (record_in n i b buffer) k 0 ≡ get_or (record_in n i b buffer') k 0
  byte-out k l h =
      let m : k < record_stride = omega (arith, length-take record_stride (drop (record_stride * (i * n + b)) buffer)) in
      byte_in buffer k m ∙ h m ∙ sym (byte_in buffer' k m)

  as_long : length (record_in n i b buffer) ≡ length (record_in n i b buffer')
  as_long =
      let at : ℕ = record_stride * (i * n + b) in
      omega (arith, length-take record_stride (drop at buffer), length-take record_stride (drop at buffer'), length-drop at buffer, length-drop at buffer')

  same_record : ((k : ℕ) → k < record_stride → byte_of n i b k buffer ≡ byte_of n i b k buffer') → record_in n i b buffer ≡ record_in n i b buffer'
  same_record h = ext_get_or 0 _ _ as_long (λ k l. byte-out k l (h k))

  same-but-gain : ((k : ℕ) → k < record_stride → (k ≡ gain_byte → ⊥) → byte_of n i b k buffer ≡ byte_of n i b k buffer')
      → but gain_byte (record_in n i b buffer) ≡ but gain_byte (record_in n i b buffer')
  same-but-gain h = same-but (record_in n i b buffer) (record_in n i b buffer') gain_byte as_long (λ k l other. byte-out k l (λ m. h k m other))

-- ---- from bytes to records

gain_or_not : (Q : ℕ → Type 0) (k : ℕ) → Q gain_byte → ((k ≡ gain_byte → ⊥) → Q k) → Q k
gain_or_not Q k f g = elim (ℕ_discrete k gain_byte) [ yes e ↦ subst Q (sym e) f | no n ↦ g n ]

pub kept : (j : ℕ) (s : List ℕ) (q : Payload) (o o' : Outcome) → length o.buffer ≡ length o'.buffer → length o.trim ≡ length o'.trim → Stays j q o o' → Kept j s q o o'
kept j s q o o' long trim-long h = record {
  before = λ i b w m. same_record (blocks_in q) i b o.buffer o'.buffer long (λ k l. h.before i b k w l m);
  after = λ i b w m away. same_record (blocks_in q) i b o.buffer o'.buffer long (λ k l.
      gain_or_not (λ k. byte_of (blocks_in q) i b k o.buffer ≡ byte_of (blocks_in q) i b k o'.buffer) k
      (h.gain i b w m (λ x. away ((chains s q j i b).0 x))) (h.behind i b k w l m));
  but-gain = λ i b w m. same-but-gain (blocks_in q) i b o.buffer o'.buffer long (λ k l. h.behind i b k w l m);
  but-flag = same-but o.trim o'.trim (trim_fixed + j) trim-long (λ x l. h.trim x);
}
