-- Demand 3, unknown elements added, taken away or changed in a payload that is put together of whole elements; and every accepted payload is.
use Rattle.std.specs.Prelude.{◌≡◌, refl, List, ◌∷◌, ◌++◌, ℕ, ◌≤◌, ◌<◌, length, get_or}
use Rattle.std.proofs.Common.{sym, ap, ◌∙◌, arith}
use Rattle.std.proofs.Math.Option.{some}
use Rattle.bits.specs.Language.{slice, run, number}
use Rattle.bits.specs.Size.{size_from}
use Rattle.bits.specs.Writes.{Binary, to_bits, to_bytes}
use Rattle.bits.specs.Lists.{binary-to_bits}
use Rattle.bits.specs.Bytes.{to_bytes-bit}
use Rattle.oamd.specs.declared.Kind.TheVariants.{Unknown}
use Rattle.oamd.specs.Tables.{most_elements}
use Rattle.oamd.specs.Element.{kind, framed}
use Rattle.oamd.specs.Answer.{reading}
use Rattle.demands.specs.Skeleton.{Body, body, known, taken_out, skeleton}
use Rattle.demands.specs.Assembly.{Head, Element, all_bodies, payload_of, PutTogether}
use Rattle.demands.proofs.Unknown.{unknown-elements}
use Rattle.demands.specs.Lemmas.Reading.{read_of}
use Rattle.demands.proofs.Lemmas.Skeletons.{outlined, known-without}
use Rattle.demands.specs.Lemmas.Assembled.{outline_is, together_of, bodies-append}
use Rattle.demands.specs.Promises.{Keeps}

skeleton_is : (h : Head) (es : List (Element h.is.alternate)) (padding : List ℕ) → length es ≤ most_elements → Binary padding
    → skeleton (payload_of h es padding) ≡ some (record { header = h.is; elements = known (all_bodies es) })
unfolding skeleton
skeleton_is h es padding few bin = ap taken_out (outline_is h es padding few bin)

-- It is so whenever the known ones of both are the same in the same order: any unknown elements may come, go, and have other bits and other sizes.
pub edited : (frame : ℕ) (h : Head) (es es' : List (Element h.is.alternate)) → known (all_bodies es') ≡ known (all_bodies es) → Keeps frame h es es'
edited frame h es es' same padding padding' buffer trim bin bin' few few' short accepted =
    unknown-elements frame (payload_of h es padding) (payload_of h es' padding') buffer trim accepted
    (skeleton_is h es' padding' (omega arith) bin' ∙ ap (λ (xs : List Body). some (record { header = h.is; elements = xs })) same
    ∙ sym (skeleton_is h es padding few bin))
    (omega arith)

without : {alternate : ℕ} (before behind : List (Element alternate)) (u : Element alternate) → u.is.kind ≡ Unknown
    → known (all_bodies (before ++ (u ∷ behind))) ≡ known (all_bodies (before ++ behind))
without before behind u unknown =
    ap known (bodies-append before (u ∷ behind)) ∙ known-without (all_bodies before) (all_bodies behind) u.is unknown
    ∙ ap known (sym (bodies-append before behind))

-- An unknown element is added, anywhere.
pub added : (frame : ℕ) (h : Head) (before behind : List (Element h.is.alternate)) (u : Element h.is.alternate) → u.is.kind ≡ Unknown
    → Keeps frame h (before ++ behind) (before ++ (u ∷ behind))
added frame h before behind u unknown = edited frame h (before ++ behind) (before ++ (u ∷ behind)) (without before behind u unknown)

-- One is taken away.
pub taken-away : (frame : ℕ) (h : Head) (before behind : List (Element h.is.alternate)) (u : Element h.is.alternate) → u.is.kind ≡ Unknown
    → Keeps frame h (before ++ (u ∷ behind)) (before ++ behind)
taken-away frame h before behind u unknown = edited frame h (before ++ (u ∷ behind)) (before ++ behind) (sym (without before behind u unknown))

-- One is given other bits, of the same or another size.
pub changed : (frame : ℕ) (h : Head) (before behind : List (Element h.is.alternate)) (u u' : Element h.is.alternate) → u.is.kind ≡ Unknown
    → u'.is.kind ≡ Unknown → Keeps frame h (before ++ (u ∷ behind)) (before ++ (u' ∷ behind))
changed frame h before behind u u' unknown unknown' =
    edited frame h (before ++ (u ∷ behind)) (before ++ (u' ∷ behind)) (without before behind u' unknown' ∙ sym (without before behind u unknown))

-- There are such elements: the shortest, with the id 0 and eight bits behind its size.
pub shortest : (u : Element 0) × (u.is.kind ≡ Unknown)
unfolding body framed kind size_from run slice number to_bits
shortest = (
  record { bits = to_bits 17 0; binary = binary-to_bits 17 0; is = record { kind = Unknown; bits = to_bits 7 0 }; whole = refl },
  refl,
)

-- Every accepted payload is put together so: the bits of its bytes are those of a header, the count, whole elements and padding.
pub put-together : (frame : ℕ) (s buffer trim : List ℕ) → (reading frame s buffer trim).answer.refusal ≡ 0 → PutTogether s
put-together frame s buffer trim accepted = together_of s (outlined s (read_of frame s buffer trim accepted).ran).ran

-- So bytes, numbers below 256, that are put together are the payload of their parts.
pub together-bytes : (s : List ℕ) → ((i : ℕ) → get_or s i 0 < 256) → (x : PutTogether s) → payload_of x.head x.elements x.padding ≡ s
unfolding payload_of
together-bytes s bytes x = ap to_bytes (sym x.together) ∙ to_bytes-bit s bytes
