-- From bytes to bytes: which output is legal for an input.
use Rattle.std.specs.Prelude.{◌≡◌, ℕ, List, [], ◌∷◌, ◌++◌, map, Some, Result, Ok, Err}
use Rattle.std.specs.List.{flat_map}
use Rattle.coarse_lists.specs.declared.collections.Collection.{Collection}
use Rattle.answer_lines.specs.declared.reasons.Reason.{Reason}
use Rattle.answer_lines.specs.declared.answers.Answer.TheVariants as answers
use Rattle.answer_lines.specs.Lines.{text_of}
use Rattle.request_lines.specs.declared.requests.Request.{Request}
use Rattle.request_lines.specs.Headers.{header_of}
use Rattle.request_lines.specs.Requests.{request_of}
use Rattle.input_lines.specs.Lines.{first_line, other_lines}
use Rattle.legal_output.specs.Lines.{Asked, Bad, Given, Finish, Line, Start}
use Rattle.legal_output.specs.Legal.{IsLegal}

abbrev pub asked_of : Result Request Reason → Asked
asked_of (Ok request) = Given request
asked_of (Err reason) = Bad reason

-- what the lines behind the header ask, and then the end of the input
abbrev pub asks_of : Collection → List ℕ → List Asked
asks_of collection input = map (λ line. asked_of (request_of collection line)) (other_lines input) ++ Finish ∷ []

-- a new collection starts from nothing
abbrev pub start_of : Collection → Start
start_of collection = record {
  channels = collection.channels;
  seal_rows = collection.seal_rows;
  plan = record { metric = collection.metric };
  columns = collection.schema.columns;
  base = [];
  m0 = 0;
}

abbrev pub text_of_line : Line → List ℕ
text_of_line line = text_of line.number line.answer

-- the line that answers the header, and the lines behind it
abbrev pub printed : List Line → List ℕ
printed lines = text_of 1 answers.Created ++ flat_map text_of_line lines

-- the input makes a collection, and the output is the text of lines that are legal for it
pub record IsLegalOutput (input output : List ℕ) : Type 0 where
  pub collection : Collection
  pub header : header_of (first_line input) ≡ Some collection
  pub lines : List Line
  pub text : output ≡ printed lines
  pub legal : IsLegal (start_of collection) (asks_of collection input) lines
