use Rattle.std.proofs.Common.{rules, append_assoc, ◌++◌, codes, decimal, length}
use Rattle.std.proofs.Output.{has_written_append, has_written_of_eq}
use Rattle.std.specs.List.{flat_map}
use Rattle.inverter.specs.Tables.{line_end, list_row}
use Rattle.inverter.proofs.reduced.ReducedDisplay.fmt.Goals as goal

pub returns-clause-writes : goal.returns-clause-writes
returns-clause-writes g c p ok =
    let r = c.args.self.now in
    let head = decimal r.entered ++ (codes " entered rules, " ++ (decimal r.told ++ (codes " of the boxes and " ++ decimal 12))) in
    let tail = codes " of the border are reduced to " ++ (decimal (length r.list.now) ++ (codes ":" ++ (line_end ++ flat_map list_row r.list.now))) in
    has_written_of_eq _ _ (head ++ tail) _ _ (simp append_assoc) (has_written_append _ _ head c.write.new.self tail _ (search rules) (search rules))
