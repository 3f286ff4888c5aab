-- The public functions of text.
use Rattle.std.specs.Prelude.{◌≡◌, refl, List, [], ◌∷◌, ◌++◌, ℕ, ◌+◌, length}
use Rattle.std.proofs.Common.{ap₂}
use base.Stored.{Coded-set, coded_via, coded_ℕ, coded×, coded_list}
use Rattle.std.proofs.lemmas.List.Edits.{sets}
use Rattle.text.specs.contracts.TextAnswer as text-answer
use Rattle.text.specs.contracts.lay_byte as lay-byte
use Rattle.text.specs.contracts.lay_bytes as lay-bytes
use Rattle.text.specs.contracts.lay_decimal as lay-decimal
use Rattle.text.specs.contracts.lay_hex as lay-hex
use Rattle.text.specs.contracts.lay_line as lay-line
use Rattle.text.specs.contracts.lay_number as lay-number
use Rattle.text.specs.contracts.list_text as list-text
use Rattle.text.specs.Answer.{Texted, texted}
use Rattle.text.specs.Laying.{capped, Laid}
use Rattle.text.specs.Lines.{hex, number_line}
use Rattle.text.specs.Listing.{listing}
use Rattle.text.specs.Numerals.{decimal}
use Rattle.unique.specs.OneAnswer.{ClausesOf, SpecOf, OneAnswer, by_equation, said, ◌beside◌}

-- The answer, with the bytes that it leaves in the lent buffer.
texted-set : IsSet Texted
texted-set =
    Coded-set (coded_via (coded× (text-answer.the_row).coded (coded_list coded_ℕ)) (λ (o : Texted). o.answer beside o.buffer)
    (λ x y h i. record { answer = (h i).0; buffer = (h i).1 }))

-- Two answers, each with the bytes that it leaves in the lent buffer, are the same, buffer too, if the payload's bytes and the bytes that stood in the buffer are.
abbrev pub OneText : ClausesOf list-text.ended → SpecOf list-text.ended → Type 2
OneText clauses spec =
    OneAnswer list-text.ended clauses spec (λ κs a. a.0.now beside a.1.0.now) {O = Texted} (λ κs a r z. record { answer = r; buffer = z.1.0 })

pub one-list_text : OneText (λ M 𝓤 𝓛. list-text.clauses 𝓛) (λ M 𝓤 𝓛. list-text.spec 𝓛)
one-list_text = by_equation (λ κs. texted-set) (λ w. refl) (λ i. texted (listing i.0) i.1) (λ w κs a r z p. said (λ h. h) p.holds)

-- The next position and the buffer behind it, from the buffer before it, the position and what is laid.
abbrev laid_from : List ℕ → ℕ → List ℕ → ℕ × List ℕ
laid_from buffer at text = (capped (at + length text), sets buffer at text)

laid-set : IsSet (ℕ × List ℕ)
laid-set = Coded-set (coded× coded_ℕ (coded_list coded_ℕ))

laid-once : {s t : List ℕ} {at r : ℕ} {l : List ℕ} → Laid s t at r l → (r beside t) ≡ laid_from s at l
laid-once h = ap₂ (λ (n : ℕ) (b : List ℕ). n beside b) h.next h.same

pub one-lay_byte : OneAnswer lay-byte.ended (λ M 𝓤 𝓛. lay-byte.clauses 𝓛) (λ M 𝓤 𝓛. lay-byte.spec 𝓛) (λ κs a. a.0.now beside a.1) (λ κs a r z. r beside z.0)
one-lay_byte = by_equation (λ κs. laid-set) (λ w. refl) (λ i. laid_from i.0 i.1.0 (i.1.1.0 ∷ [])) (λ w κs a r z p. said laid-once p.holds)

pub one-lay_bytes : OneAnswer lay-bytes.ended (λ M 𝓤 𝓛. lay-bytes.clauses 𝓛) (λ M 𝓤 𝓛. lay-bytes.spec 𝓛) (λ κs a. a.0.now beside a.1.0 beside a.1.1.0.now)
    (λ κs a r z. r beside z.0)
one-lay_bytes = by_equation (λ κs. laid-set) (λ w. refl) (λ i. laid_from i.0 i.1.0 i.1.1) (λ w κs a r z p. said laid-once p.holds)

pub one-lay_decimal : OneAnswer lay-decimal.ended (λ M 𝓤 𝓛. lay-decimal.clauses 𝓛) (λ M 𝓤 𝓛. lay-decimal.spec 𝓛) (λ κs a. a.0.now beside a.1)
    (λ κs a r z. r beside z.0)
one-lay_decimal = by_equation (λ κs. laid-set) (λ w. refl) (λ i. laid_from i.0 i.1.0 (decimal i.1.1.0)) (λ w κs a r z p. said laid-once p.holds)

pub one-lay_hex : OneAnswer lay-hex.ended (λ M 𝓤 𝓛. lay-hex.clauses 𝓛) (λ M 𝓤 𝓛. lay-hex.spec 𝓛) (λ κs a. a.0.now beside a.1.0 beside a.1.1.0.now)
    (λ κs a r z. r beside z.0)
one-lay_hex = by_equation (λ κs. laid-set) (λ w. refl) (λ i. laid_from i.0 i.1.0 (hex i.1.1)) (λ w κs a r z p. said laid-once p.holds)

pub one-lay_line : OneAnswer lay-line.ended (λ M 𝓤 𝓛. lay-line.clauses 𝓛) (λ M 𝓤 𝓛. lay-line.spec 𝓛)
    (λ κs a. a.0.now beside a.1.0 beside a.1.1.0.now beside a.1.1.1) (λ κs a r z. r beside z.0)
one-lay_line =
    by_equation (λ κs. laid-set) (λ w. refl) (λ i. laid_from i.0 i.1.0 (number_line i.1.1.0 i.1.1.1.0))
    (λ w κs a r z p. said laid-once p.holds)

pub one-lay_number : OneAnswer lay-number.ended (λ M 𝓤 𝓛. lay-number.clauses 𝓛) (λ M 𝓤 𝓛. lay-number.spec 𝓛) (λ κs a. a.0.now beside a.1) (λ κs a r z. r beside z.0)
one-lay_number =
    by_equation (λ κs. laid-set) (λ w. refl) (λ i. laid_from i.0 i.1.0 (decimal i.1.1.0 ++ (i.1.1.1.0 ∷ [])))
    (λ w κs a r z p. said laid-once p.holds)
