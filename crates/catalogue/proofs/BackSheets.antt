-- A frame: the last steps of each kind. Assumes nothing.
use Rattle.std.specs.Prelude.{◌≡◌, List, ℕ, Result}
use Rattle.catalogue.specs.declared.BadLine.{BadLine}
use Rattle.catalogue.specs.declared.Reader.{Reader}
use Rattle.catalogue.specs.Sheets.{Change, refused_sheet, accepted_sheet}
use Rattle.catalogue.specs.Scan.{give, number, ◌>>=◌}
use Rattle.catalogue.specs.Back.{updates_back, refused_back}
use Rattle.catalogue.specs.Parts.{came, runs}
use Rattle.catalogue.specs.BackCalls.{refusal_back}
use Rattle.catalogue.proofs.BackRuns.{maps_same, maps-give, maps-bind, maps_then, came-maps}

pub refused_last : (frame : ℕ) (x : Result ℕ BadLine) (r r' : Reader) → came (λ v. v) x r' ≡ runs r refusal_back → came (refused_sheet frame) x r' ≡ runs r (refused_back frame)
unfolding refused_back
refused_last frame x r r' h = came-maps (λ v. v) x r r' (maps-bind (maps_same (number 1 12)) (λ v. maps-bind (maps_same _) (λ u. maps-give (refused_sheet frame) v))) h

pub accepted_last : {T : Type 0} (frame objects blocks : ℕ) (before : List ℕ) (f : T → List Change) (x : Result T BadLine) (r r' : Reader)
    → came f x r' ≡ runs r (updates_back objects blocks before)
    → came (λ t. accepted_sheet frame objects (f t)) x r' ≡ runs r (updates_back objects blocks before >>= λ updates. give (accepted_sheet frame objects updates))
accepted_last frame objects blocks before f x r r' h = came-maps f x r r' (maps_then (accepted_sheet frame objects) (maps_same (updates_back objects blocks before))) h
