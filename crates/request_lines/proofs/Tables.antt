-- The first reason that holds, over a table that is read part by part.
use Rattle.std.proofs.Common.{◌≡◌, ℕ, Bool, true, false, List, [], ◌∷◌, ◌++◌, refl, sym, ap, subst, ◌∙◌, Option, Some, None, Result, Ok, Err}
use Rattle.std.specs.Prelude.{cond, find, IfErr, IsErrAnd}
use Rattle.answer_lines.specs.declared.reasons.Reason.{Reason}
use Rattle.coarse_lists.specs.declared.collections.Collection.{Collection}
use Rattle.request_lines.specs.declared.operations.Operation.{Operation}
use Rattle.request_lines.specs.declared.refusals.LineError.{LineError}
use Rattle.request_lines.specs.declared.refusals.LineError.TheVariants.{Refused, Memory}
use Rattle.request_lines.specs.declared.requests.Ask.{Ask}
use Rattle.request_lines.specs.declared.requests.Request.{Request}
use Rattle.request_lines.specs.Json.{Line}
use Rattle.request_lines.specs.Requests.{holds, refused_or, reasons, caller_in, ask_in, request_in, operation_in, line_request, Refuses}
use Rattle.request_lines.specs.Parts.{form_reasons, caller_reasons, member_reasons, operation_read, caller_read, ask_read}

-- a value that is answered was not refused
pub value_is : {T : Type 0} (o : Option Reason) (x v : T) → refused_or o x ≡ Ok v → x ≡ v
value_is (Some reason) x v e = cc
value_is None x v e = cc

found_nothing : {T : Type 0} (b : Bool) (reason : Reason) (o : Option Reason) (x v : T) → refused_or (cond b (Some reason) o) x ≡ Ok v → (b ≡ false) × (refused_or o x ≡ Ok v)
found_nothing true reason o x v e = cc
found_nothing false reason o x v e = (refl, e)

-- where no reason of the first part holds, those behind decide
pub behind : {T U : Type 0} (holds : Reason → Bool) (front rest : List Reason) (x v : T) (y : U) → refused_or (find holds front) x ≡ Ok v → refused_or (find holds (front ++ rest)) y ≡ refused_or (find holds rest) y
behind holds [] rest x v y e = refl
behind holds (reason ∷ front) rest x v y e =
    let parts = found_nothing (holds reason) reason (find holds front) x v e in
    ap (λ b. refused_or (cond b (Some reason) (find holds (front ++ rest))) y) parts.0 ∙ behind holds front rest x v y parts.1

ends_at : {T U : Type 0} (b : Bool) (reason : Reason) (o p : Option Reason) (x : T) (y : U) (found : Reason)
    → (refused_or o x ≡ Err found → refused_or p y ≡ Err found)
    → refused_or (cond b (Some reason) o) x ≡ Err found → refused_or (cond b (Some reason) p) y ≡ Err found
ends_at true reason o p x y found f e = let same : reason ≡ found = cc in ap Err same
ends_at false reason o p x y found f e = f e

-- a reason of the first part is the first of all
pub before : {T U : Type 0} (holds : Reason → Bool) (front rest : List Reason) (x : T) (y : U) (found : Reason) → refused_or (find holds front) x ≡ Err found → refused_or (find holds (front ++ rest)) y ≡ Err found
before holds [] rest x y found e = cc
before holds (reason ∷ front) rest x y found e =
    ends_at (holds reason) reason (find holds front) (find holds (front ++ rest)) x y found (before holds front rest x y found) e

asked : (o : Option Reason) (c d : ℕ) (x v : Ask) → c ≡ d → refused_or o x ≡ Ok v
    → ◌≡◌ {A = Result Request Reason} (refused_or o (record { caller = c; what = x })) (Ok (record { caller = d; what = v }))
asked (Some reason) c d x v one e = cc
asked None c d x v one e = let same : x ≡ v = cc in λ i. Ok (record { caller = one i; what = same i })

module _ (collection : Collection) (line : Line) where
  abbrev holds_here : Reason → Bool
  holds_here reason = holds collection (operation_in line) line reason

  same_operation : (operation : Operation) → operation_read collection line ≡ Ok operation → operation_in line ≡ operation
  same_operation operation form = value_is (find holds_here form_reasons) (operation_in line) operation form

  -- where the form of a line and its caller are right, its members decide
  behind_caller : {T : Type 0} (operation : Operation) (caller : ℕ) (y : T) → operation_read collection line ≡ Ok operation → caller_read collection (operation_in line) line ≡ Ok caller
      → refused_or (find holds_here reasons) y ≡ refused_or (find holds_here member_reasons) y
  behind_caller operation caller y form called =
      behind holds_here form_reasons (caller_reasons ++ member_reasons) (operation_in line) operation y form
      ∙ behind holds_here caller_reasons member_reasons (caller_in line (operation_in line)) caller y called

  caller_here : (operation : Operation) (caller : Result ℕ Reason) → operation_read collection line ≡ Ok operation → caller_read collection operation line ≡ caller
      → caller_read collection (operation_in line) line ≡ caller
  caller_here operation caller form called = subst (λ (op : Operation). caller_read collection op line ≡ caller) (sym (same_operation operation form)) called

  ask_here : (operation : Operation) (ask : Result Ask Reason) → operation_read collection line ≡ Ok operation → ask_read collection operation line ≡ ask
      → ask_read collection (operation_in line) line ≡ ask
  ask_here operation ask form members = subst (λ (op : Operation). ask_read collection op line ≡ ask) (sym (same_operation operation form)) members

  -- what the form, the caller and the members of a line give is what the line is
  pub request_read : (operation : Operation) (caller : ℕ) (ask : Ask) → operation_read collection line ≡ Ok operation → caller_read collection operation line ≡ Ok caller
      → ask_read collection operation line ≡ Ok ask → line_request collection line ≡ Ok (record { caller = caller; what = ask })
  request_read operation caller ask form called members =
      let here = caller_here operation (Ok caller) form called in
      behind_caller operation caller (request_in collection line (operation_in line)) form here
      ∙ asked (find holds_here member_reasons) (caller_in line (operation_in line)) caller (ask_in collection line (operation_in line)) ask
      (value_is (find holds_here caller_reasons) (caller_in line (operation_in line)) caller here) (ask_here operation (Ok ask) form members)

  -- the first reason on the form of a line
  pub form_refused : (reason : Reason) → operation_read collection line ≡ Err reason → line_request collection line ≡ Err reason
  form_refused reason form = before holds_here form_reasons (caller_reasons ++ member_reasons) (operation_in line) (request_in collection line (operation_in line)) reason form

  -- the reason on its caller
  pub caller_refused : (operation : Operation) (reason : Reason) → operation_read collection line ≡ Ok operation → caller_read collection operation line ≡ Err reason
      → line_request collection line ≡ Err reason
  caller_refused operation reason form called =
      behind holds_here form_reasons (caller_reasons ++ member_reasons) (operation_in line) operation (request_in collection line (operation_in line)) form
      ∙ before holds_here caller_reasons member_reasons (caller_in line (operation_in line)) (request_in collection line (operation_in line)) reason
      (caller_here operation (Err reason) form called)

  refused_alike : (o : Option Reason) (x : Ask) (y : Request) (reason : Reason) → refused_or o x ≡ Err reason → refused_or o y ≡ Err reason
  refused_alike (Some found) x y reason e = let same : found ≡ reason = cc in ap Err same
  refused_alike None x y reason e = cc

  -- the first reason on its members
  pub members_refused : (operation : Operation) (caller : ℕ) (error : LineError) → operation_read collection line ≡ Ok operation → caller_read collection operation line ≡ Ok caller
      → Refuses (ask_read collection operation line) error → Refuses (line_request collection line) error
  members_refused operation caller Memory form called members = tt
  members_refused operation caller (Refused reason) form called members =
      behind_caller operation caller (request_in collection line (operation_in line)) form (caller_here operation (Ok caller) form called)
      ∙ refused_alike (find holds_here member_reasons) (ask_in collection line (operation_in line)) (request_in collection line (operation_in line)) reason
      (ask_here operation (Err reason) form members)

  -- an error that came through a `?`
  pub passed_on : (r : Result Request LineError) (error : LineError) → IsErrAnd r (λ e. e ≡ error) → Refuses (line_request collection line) error → IfErr r (Refuses (line_request collection line))
  passed_on (Ok request) error is refuses = tt
  passed_on (Err e) error is refuses = subst (Refuses (line_request collection line)) (sym is) refuses
