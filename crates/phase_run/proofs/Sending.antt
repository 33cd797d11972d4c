-- Requests go to other threads. This does not come by itself, since filters lie in one another.
use denote.Param.Send.{IsSend, sendable}
use Rattle.std.proofs.Crossing.{crosses}
use Rattle.row_types.proofs.filters.Filter.TheLaws.TheKnot.{crosses as filters}
use Rattle.row_types.proofs.rows.Key.TheSendSync as key
use Rattle.row_types.proofs.vectors.BitVector.TheSendSync as vector
use Rattle.hybrid_time.proofs.levels.Level.TheSendSync as level
use Rattle.log_model.proofs.logs.Write.TheSendSync as write
use Rattle.request_lines.specs.contracts.requests.Request as Request

pub request_send : IsSend Request.the_row
request_send = search (write.the_send, vector.the_send, level.the_send, key.the_send, filters, sendable, crosses) depth 60 fits 20000
