-- The line that shows an answer: compact JSON, its members in the order of their bytes, and a line feed.
use Rattle.std.specs.Prelude.{◌≡◌, Option, Some, None, ℕ, List, [], ◌∷◌, ◌++◌, map, codes}
use Rattle.serde_json.specs.Data.{unsigned, Data, null, boolean, number, string, array, object, Items, no_items, item, Members, no_members, member, put}
use Rattle.serde_json.specs.Read.{read}
use Rattle.serde_json.specs.Find.{of_integer}
use Rattle.serde_json.specs.View.{items_of}
use Rattle.serde_json.specs.Written.{compact_text}
use Rattle.hybrid_time.specs.declared.times.Timestamp.{Timestamp}
use Rattle.row_types.specs.declared.hits.Distance.{Distance}
use Rattle.row_types.specs.declared.hits.Distance.TheVariants.{Hamming, Jaccard}
use Rattle.row_types.specs.declared.hits.Hit.{Hit}
use Rattle.row_types.specs.declared.rows.Field.{Field}
use Rattle.row_types.specs.declared.rows.Field.TheVariants as fields
use Rattle.row_types.specs.Spelling.{hex_of}
use Rattle.answer_lines.specs.declared.reasons.Reason.{Reason}
use Rattle.answer_lines.specs.declared.reasons.Reason.TheVariants.{NotJson, NotObject, BadOp, LateCreate, UnknownMember, BadCaller, BadKey, NoVector, BadVector, BadFields, BadK, BadLevel, BadFilter, BadWait}
use Rattle.answer_lines.specs.declared.answers.Wrote.{Wrote}
use Rattle.answer_lines.specs.declared.answers.Wrote.TheVariants.{Inserted, Exists, Was}
use Rattle.answer_lines.specs.declared.answers.Named.{Named}
use Rattle.answer_lines.specs.declared.answers.Answer.{Answer}
use Rattle.answer_lines.specs.declared.answers.Answer.TheVariants as answers

-- a number that is not below 0
abbrev pub whole : ℕ → Data
whole n = number (unsigned n)

-- a hit is its distance and its key: one number for a Hamming distance, the two parts of a fraction
abbrev pub parts_of : Distance → Items → Items
parts_of (Hamming distance) rest = item (whole distance) rest
parts_of (Jaccard num den) rest = item (whole num) (item (whole den) rest)

abbrev pub hit_data : Hit → Data
hit_data hit = array (parts_of hit.distance (item (number (of_integer hit.key.0)) no_items))

abbrev pub hits_data : List Hit → Data
hits_data hits = array (items_of (map hit_data hits))

abbrev pub stamp_data : Timestamp → Data
stamp_data ts = whole ts.0

abbrev pub stamps_data : List Timestamp → Data
stamps_data stamps = array (items_of (map stamp_data stamps))

-- the timestamp and the rows of a channel's seal
abbrev pub seal_data : Timestamp × ℕ → Data
seal_data seal = array (item (stamp_data seal.0) (item (whole seal.1) no_items))

abbrev pub seals_data : List (Timestamp × ℕ) → Data
seals_data seals = array (items_of (map seal_data seals))

abbrev pub field_data : Field → Data
field_data (fields.Int n) = number (of_integer n)
field_data (fields.Bool b) = boolean b
field_data (fields.Text text) = string text

-- members, and each field under its name in its place among them
abbrev pub members_with : Members → List (List ℕ) → List Field → Members
members_with members [] values = members
members_with members (name ∷ names) [] = members
members_with members (name ∷ names) (value ∷ values) = members_with (put name (field_data value) members) names values

abbrev pub fields_data : List (List ℕ) → List Field → Data
fields_data names values = object (members_with no_members names values)

abbrev pub row_data : Option Named → Data
row_data None = null
row_data (Some named) = object (member (codes "fields") (fields_data named.names named.row.fields)
    (member (codes "key") (number (of_integer named.row.key.0)) (member (codes "vector") (string (hex_of named.row.vector)) no_members)))

-- the name of a reason
abbrev pub name_of : Reason → List ℕ
name_of NotJson = codes "NotJson"
name_of NotObject = codes "NotObject"
name_of BadOp = codes "BadOp"
name_of LateCreate = codes "LateCreate"
name_of UnknownMember = codes "UnknownMember"
name_of BadCaller = codes "BadCaller"
name_of BadKey = codes "BadKey"
name_of NoVector = codes "NoVector"
name_of BadVector = codes "BadVector"
name_of BadFields = codes "BadFields"
name_of BadK = codes "BadK"
name_of BadLevel = codes "BadLevel"
name_of BadFilter = codes "BadFilter"
name_of BadWait = codes "BadWait"

-- an object whose first members are the kind of the answer
abbrev pub answered : List ℕ → Members → Data
answered kind members = object (member (codes "answer") (string kind) members)

-- the number of the input line
abbrev pub numbered : ℕ → Members → Members
numbered line members = member (codes "line") (whole line) members

abbrev pub write_data : ℕ → ℕ → Wrote → Data
write_data line ts Inserted = answered (codes "ok") (numbered line (member (codes "ts") (whole ts) no_members))
write_data line ts Exists = answered (codes "exists") (numbered line (member (codes "ts") (whole ts) no_members))
write_data line ts (Was live) = answered (codes "ok") (numbered line (member (codes "ts") (whole ts) (member (codes "was") (boolean live) no_members)))

-- the object that answers input line `line`
abbrev pub answer_data : ℕ → Answer → Data
answer_data line answers.Created = answered (codes "created") (numbered line no_members)
answer_data line (answers.Wrote reply) = write_data line reply.ts.0 reply.what
answer_data line (answers.Hits now guarantee ts hits) =
    answered (codes "hits") (member (codes "guarantee") (stamp_data guarantee) (member (codes "hits") (hits_data hits)
    (numbered line (member (codes "now") (stamp_data now) (member (codes "ts") (stamp_data ts) no_members)))))
answer_data line (answers.Found now guarantee ts row) =
    answered (codes "row") (member (codes "guarantee") (stamp_data guarantee) (numbered line (member (codes "now") (stamp_data now)
    (member (codes "row") (row_data row) (member (codes "ts") (stamp_data ts) no_members)))))
answer_data line (answers.Pending now guarantee channel tick) =
    answered (codes "pending") (member (codes "channel") (whole channel) (member (codes "guarantee") (stamp_data guarantee)
    (numbered line (member (codes "now") (stamp_data now) (member (codes "tick") (stamp_data tick) no_members)))))
answer_data line (answers.Ticked ticks) = answered (codes "ticked") (numbered line (member (codes "ticks") (stamps_data ticks) no_members))
answer_data line (answers.Sealed seals) = answered (codes "sealed") (numbered line (member (codes "seals") (seals_data seals) no_members))
answer_data line (answers.Met reply) =
    answered (codes "met") (member (codes "failed") (whole reply.failed) (numbered line (member (codes "live") (whole reply.live)
    (member (codes "node_live") (whole reply.node_live) (member (codes "node_rows") (whole reply.node_rows) (member (codes "tail") (whole reply.tail)
    (member (codes "ts") (stamp_data reply.ts) (member (codes "waiting") (whole reply.waiting) no_members))))))))
answer_data line (answers.End reply) =
    answered (codes "end") (member (codes "failed") (whole reply.failed) (member (codes "live") (whole reply.live)
    (member (codes "node_live") (whole reply.node_live) (member (codes "node_rows") (whole reply.node_rows) (member (codes "tail") (whole reply.tail)
    (member (codes "ts") (stamp_data reply.ts) (member (codes "waiting") (whole reply.waiting) no_members)))))))
answer_data line (answers.Refused reason) = answered (codes "refused") (numbered line (member (codes "reason") (string (name_of reason)) no_members))

-- the text of the line that answers input line `line`
abbrev pub text_of : ℕ → Answer → List ℕ
text_of line answer = compact_text (answer_data line answer) ++ 10 ∷ []

-- a line that JSON reads as this value, but for its line feed
abbrev pub Shows : List ℕ → Data → Type 0
Shows text d = (front : List ℕ) × (text ≡ front ++ 10 ∷ []) × (read front ≡ Some d)
