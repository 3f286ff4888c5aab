use Rattle.catalogue.specs.Fields.{fields}
use Rattle.text.proofs.LayLaws.{laid_is}
use Rattle.catalogue.proofs.RowsLaws.{now_of, key_of}
use Rattle.catalogue.proofs.entries.lay_name.Goals as goal

pub returns : goal.returns
unfolding fields
returns c = laid_is (rw now_of (key_of c.args.k)) c.lay_bytes.ensures
