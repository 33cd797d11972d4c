-- A caller's requests so far.
use Rattle.std.proofs.Common.{◌≡◌, ℕ, ◌+◌, ◌*◌, ◌<◌, ◌≤◌, List, [], ◌∷◌, ◌++◌, map, length, get_or, length-append, Err, Ok, refl, ap, sym, ◌∙◌, subst, arith}
use Rattle.std.proofs.lemmas.List.{map-append}
use Rattle.std.specs.Result.{IsErr}
use Rattle.std.specs.declared.result.Result.{Result}
use Rattle.row_types.specs.declared.allocation.Memory.{Memory}
use Rattle.turn_table.specs.Seats.{SeatView}
use Rattle.coarse_lists.specs.declared.collections.Collection.{Collection}
use Rattle.answer_lines.specs.declared.answers.Answer.{Answer}
use Rattle.request_lines.specs.declared.requests.Request.{Request}
use Rattle.legal_output.specs.Lines.{Line, written_of}
use Rattle.legal_output.specs.Printed.{write_or, write_behind}
use Rattle.journal_model.specs.declared.notes.Note.{Note}
use Rattle.seat_walks.specs.Walks.{Step}
use Rattle.shard_core.specs.Shards.{ChannelBase}
use Rattle.call_model.specs.Walks.{Did, Serves, IsServed, Ran}
use Rattle.call_model.proofs.Serving.{served_more}
use Rattle.shard_calls.specs.Fronts.{Spends}
use Rattle.phase_run.specs.Callers.{IsKnown, line_of, answered, Asked}
use Rattle.phase_run.proofs.Serving.{no_ok, spends_none, spends_more, none_answered, answered_more, write_behind_more}

abbrev pub number_of : ℕ × Answer → ℕ
number_of answer = answer.0

abbrev pub number_in : Line → ℕ
number_in line = line.number

module _ (collection : Collection) (least first mine : ℕ) (s : SeatView Note ChannelBase) (requests : List (ℕ × Request)) where
  -- the first requests were served, and the seat is m
  pub record Progress (count : ℕ) (m : SeatView Note ChannelBase) (now : ℕ) (answers : List (ℕ × Answer)) : Type 0 where
    pub served : IsServed collection least mine s (answered requests answers) m
    pub mine_is : now ≡ write_behind mine (answered requests answers)
    pub known : IsKnown first now m
    pub spends : Spends (count * 20) s m
    pub many : length answers ≡ count
    pub numbers : map number_of answers ≡ map number_in (answered requests answers)

  pub progress_none : (answers : List (ℕ × Answer)) → answers ≡ [] → IsKnown first mine s → Progress 0 s mine answers
  progress_none answers none known =
      let lines : answered requests answers ≡ [] = ap (answered requests) none ∙ none_answered requests in record {
        served = subst (λ (l : List Line). IsServed collection least mine s l s) (sym lines) refl;
        mine_is = sym (ap (write_behind mine) lines);
        known = known;
        spends = spends_none (0 * 20) s;
        many = ap length none;
        numbers = ap (map number_of) none ∙ sym (ap (map number_in) lines);
      }

  pub progress_more : (count : ℕ) (m e : SeatView Note ChannelBase) (now next : ℕ) (answers later : List (ℕ × Answer)) (request : ℕ × Request) (answer : Answer) → Progress count m now answers → count < length requests → request ≡ get_or requests count request
      → later ≡ answers ++ (request.0, answer) ∷ [] → Serves collection least now m (line_of request answer) e → next ≡ write_or now (written_of answer) → IsKnown first next e → Spends 20 m e → Progress (count + 1) e next later
  progress_more count m e now next answers later request answer p low is more serves wrote known spent =
      let many : length answers ≡ count = p.many in
      let at : request ≡ get_or requests (length answers) request = subst (λ (n : ℕ). request ≡ get_or requests n request) (sym many) is in
      let lines : answered requests later ≡ answered requests answers ++ line_of request answer ∷ [] = ap (answered requests) more ∙ answered_more requests answers request (request.0, answer) (omega arith) at in record {
        served = subst (λ (l : List Line). IsServed collection least mine s l e) (sym lines)
            (served_more collection least mine s m e (answered requests answers) (line_of request answer) p.served (subst (λ (n : ℕ). Serves collection least n m (line_of request answer) e) p.mine_is serves));
        mine_is = wrote ∙ ap (λ (n : ℕ). write_or n (written_of answer)) p.mine_is ∙ sym (ap (write_behind mine) lines ∙ write_behind_more mine (answered requests answers) (line_of request answer));
        known = known;
        spends = spends_more (count * 20) 20 ((count + 1) * 20) s m e p.spends spent (omega arith);
        many = ap length more ∙ (let l : length (answers ++ (request.0, answer) ∷ []) ≡ length answers + 1 = length-append answers ((request.0, answer) ∷ []) in omega arith);
        numbers = ap (map number_of) more ∙ map-append number_of answers ((request.0, answer) ∷ []) ∙ ap (λ (l : List ℕ). l ++ request.0 ∷ []) p.numbers
            ∙ sym (ap (map number_in) lines ∙ map-append number_in (answered requests answers) (line_of request answer ∷ []));
      }

  -- where memory was wanting
  pub asked_part : (count : ℕ) (m e : SeatView Note ChannelBase) (now : ℕ) (answers later : List (ℕ × Answer)) (done : Result (Unit {0}) Memory) → Progress count m now answers → later ≡ answers → (part : List (Step Note)) × Did m part e → IsErr done → Asked collection least mine s requests later done e
  asked_part count m e now answers later done p same d failed = record {
    part = d.0;
    ran = subst (λ (l : List (ℕ × Answer)). Ran collection least mine s (answered requests l) d.0 e) (sym same) (record { middle = m; served = p.served; left = d.1 });
    whole = no_ok ((d.0 ≡ []) × (length later ≡ length requests)) done failed;
  }

  pub asked_whole : (count : ℕ) (m : SeatView Note ChannelBase) (now : ℕ) (answers : List (ℕ × Answer)) → Progress count m now answers → count ≡ length requests → Asked collection least mine s requests answers (Ok tt) m
  asked_whole count m now answers p all = record {
    part = [];
    ran = record { middle = m; served = p.served; left = refl };
    whole = (refl, p.many ∙ all);
  }
