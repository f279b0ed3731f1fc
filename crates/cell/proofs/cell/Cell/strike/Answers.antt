use Rattle.std.proofs.Common.{◌-◌, ◌<◌, ◌≤◌, length, get_or, take, sym, refl, ap, ◌∙◌, arith, rules}
use Rattle.std.proofs.lemmas.List.{length-set}
use Rattle.cell.specs.Book.{sound}
use Rattle.cell.specs.Calls.{copied}
use Rattle.cell.proofs.Striking.{copied_any, copied_itself, sound_front}
use Rattle.cell.proofs.cell.Cell.strike.Goals as goal

pub invariant_of-self : goal.invariant_of-self
invariant_of-self g c =
    let told = c.args.self.now in
    let mem = told.records.now in
    let last : told.filled - 1 < told.filled = omega (arith, c.requires) in
    let within : told.filled ≤ length mem = omega (arith, told.room) in
    let inside : told.filled - 1 < length mem = omega arith in
    record {
      some = told.some;
      few = told.few;
      room = omega (arith, told.room);
      sound =
          ap (λ xs. sound told.marks (take (told.filled - 1) xs)) (sym (copied_itself mem (told.filled - 1) inside))
          ∙ sound_front told.marks mem told.filled (told.filled - 1) told.sound within last;
    }

pub invariant_of-self-2 : goal.invariant_of-self-2
invariant_of-self-2 g c =
    let told = c.args.self.now in
    let mem = told.records.now in
    let d = c.index-self-last.result in
    let within : told.filled ≤ length mem = omega (arith, told.room) in
    let inside : told.filled - 1 < length mem = omega (arith, c.requires) in
    record {
      some = told.some;
      few = told.few;
      room = omega (arith, told.room, length-set mem c.args.place (get_or mem (told.filled - 1) d));
      sound =
          ap (λ xs. sound told.marks (take (told.filled - 1) xs)) (sym (copied_any mem (told.filled - 1) c.args.place d inside))
          ∙ sound_front told.marks mem told.filled c.args.place told.sound within c.requires;
    }

pub returns-then-place-last : goal.returns-then-place-last
returns-then-place-last g c =
    let told = c.args.self.now in
    let mem = told.records.now in
    let inside : told.filled - 1 < length mem = omega (arith, c.requires, told.room) in
    record {
      marks_kept = refl;
      lent_kept = refl;
      filled_after = omega (arith, c.requires);
      memory_after = sym (ap (copied mem (told.filled - 1)) c.if-place-last.true ∙ copied_itself mem (told.filled - 1) inside);
    }
