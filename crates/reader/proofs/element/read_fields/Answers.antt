use Rattle.std.proofs.Common.{rules}
use Rattle.reader.proofs.ElementLoop.{unknown-fields, object-fields, trim-fields, extended-fields}
use Rattle.reader.proofs.element.read_fields.Goals as goal

pub returns-in-Unknown : goal.returns-in-Unknown
returns-in-Unknown c =
    rw c.in-Unknown.is (unknown-fields (search rules))

pub returns-in-Object : goal.returns-in-Object
returns-in-Object c =
    rw c.in-Object.is (object-fields (search rules) c.read_object_element-step.ensures)

pub returns-in-Trim : goal.returns-in-Trim
returns-in-Trim c =
    rw c.in-Trim.is (trim-fields (search rules) c.read_trim-cur.ensures)

pub returns-in-Extended : goal.returns-in-Extended
returns-in-Extended c =
    rw c.in-Extended.is (extended-fields (search rules) c.read_extended-cur.ensures)
