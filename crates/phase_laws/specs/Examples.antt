-- A small run: one caller, one channel, one insert, and the end.
use Rattle.std.specs.Prelude.{pos, Bool, List, [], ◌∷◌, Some}
use Rattle.row_types.specs.declared.rows.Row.{Row}
use Rattle.coarse_lists.specs.declared.collections.Collection.{Collection}
use Rattle.answer_lines.specs.declared.answers.Wrote.TheVariants.{Inserted}
use Rattle.answer_lines.specs.declared.answers.MeetReply.{MeetReply}
use Rattle.answer_lines.specs.declared.answers.Answer.TheVariants as answers
use Rattle.request_lines.specs.declared.requests.Ask.TheVariants as asks
use Rattle.log_model.specs.declared.logs.Write.TheVariants as writes
use Rattle.legal_output.specs.Lines.{Given, Finish, Line}
use Rattle.legal_output.specs.Printed.{sum_over, lines_of, write_behind}
use Rattle.journal_model.specs.declared.notes.PutKind.TheVariants.{Insert}
use Rattle.journal_model.specs.declared.notes.Kind.TheVariants.{Put}
use Rattle.journal_model.specs.declared.notes.Note.{Note}
use Rattle.journal_model.specs.Notes.{note_of}
use Rattle.call_model.specs.Turns.{stamp}
use Rattle.phase_model.specs.Rests.{Rest}
use Rattle.phase_model.specs.Meets.{meet_tick, count_at}

-- a collection of one channel, whose tail is sealed at two rows
abbrev pub one_channel : Collection → Collection
one_channel collection = record collection { channels = 1; seal_rows = 2 }

abbrev pub first_row : List Bool → Row
first_row vector = record { key = record { 0 = pos 7 }; vector = vector; fields = [] }

abbrev pub insert_line : List Bool → Line
insert_line vector = record {
  number = 2;
  asked = Given (record { caller = 0; what = asks.Write (writes.Insert (first_row vector)) });
  answer = answers.Wrote (record { ts = stamp 1; what = Inserted });
}

abbrev pub put_note : List Bool → Note
put_note vector = note_of 1 2 (Put (stamp 1) Insert (first_row vector))

-- behind the insert
abbrev pub written_rest : List Bool → Rest
written_rest vector = record {
  clock = 2;
  met = 0;
  floor = 0;
  mine = λ caller. write_behind 0 (lines_of (Some caller) (insert_line vector ∷ []));
  journals = (put_note vector ∷ []) ∷ [];
}

-- behind the end
abbrev pub ended_rest : List Bool → Rest
ended_rest vector = record {
  clock = 3;
  met = 2;
  floor = 2;
  mine = λ caller. write_behind 0 (lines_of (Some caller) (insert_line vector ∷ []));
  journals = (put_note vector ∷ meet_tick 0 2 ∷ []) ∷ [];
}

-- the counts of the one channel, and a failure that no line tells
abbrev pub counted_once : Collection → List Bool → MeetReply
counted_once collection vector = record {
  ts = stamp 2;
  live = sum_over 1 (count_at (one_channel collection) (λ c. c.live) (ended_rest vector));
  tail = sum_over 1 (count_at (one_channel collection) (λ c. c.tail) (ended_rest vector));
  waiting = sum_over 1 (count_at (one_channel collection) (λ c. c.waiting) (ended_rest vector));
  node_rows = sum_over 1 (count_at (one_channel collection) (λ c. c.node_rows) (ended_rest vector));
  node_live = sum_over 1 (count_at (one_channel collection) (λ c. c.node_live) (ended_rest vector));
  failed = 1;
}

abbrev pub end_line : Collection → List Bool → Line
end_line collection vector = record { number = 3; asked = Finish; answer = answers.End (counted_once collection vector) }
