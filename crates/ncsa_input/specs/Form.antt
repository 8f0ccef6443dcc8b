-- The form of a line. In the common log format it is host, log name, user, time, request, status and bytes; in the combined
-- one referer and user agent stand behind these; and a cookie may stand behind these.
use Rattle.std.specs.Prelude.{◌≡◌, ◌≢◌, ◌<◌, ℕ, ◌+◌, List, [], ◌∷◌, ◌++◌, length, replicate, Option, Some, None, IfSome, option_and_then}
use Rattle.std.specs.List.{All, concat}
use Rattle.lp_model.specs.Reading.{Slots}
use Rattle.line_input.specs.Parts.{field_of}

-- what a client tells of itself
pub record Client : Type 0 where
  pub referer : List ℕ
  pub agent : List ℕ
  pub cookie : Option (List ℕ)

-- the parts of a line; in the common log format it tells nothing of the client but its host
pub record NcsaParts : Type 0 where
  pub host : List ℕ
  pub log_name : List ℕ
  pub user : List ℕ
  pub time : List ℕ
  pub request : List ℕ
  pub status : List ℕ
  pub bytes : List ℕ
  pub client : Option Client

-- ---- what a part may hold

-- a word has one byte or more, and no space
pub record IsWord (part : List ℕ) : Type 0 where
  pub filled : 0 < length part
  pub whole : All (λ byte. byte ≢ 32) part

-- in brackets stands no `]`
abbrev pub IsInBrackets : List ℕ → Type 0
IsInBrackets part = All (λ byte. byte ≢ 93) part

-- what stands for one byte in quotes: itself, where it is neither a quote nor a backslash; or a backslash and any byte
abbrev pub IsQuotedByte : List ℕ → Type 0
IsQuotedByte [] = ⊥
IsQuotedByte (b ∷ []) = (b ≢ 34) × (b ≢ 92)
IsQuotedByte (b ∷ c ∷ []) = b ≡ 92
IsQuotedByte (b ∷ c ∷ d ∷ bs) = ⊥

-- in quotes stand any number of these, one behind another
pub record IsInQuotes (part : List ℕ) : Type 0 where
  pub bytes : List (List ℕ)
  pub each : All IsQuotedByte bytes
  pub all : part ≡ concat bytes

pub record IsClient (client : Client) : Type 0 where
  pub referer : IsInQuotes client.referer
  pub agent : IsInQuotes client.agent
  pub cookie : IfSome client.cookie IsInQuotes

-- ---- how the parts stand in a line

-- between `[` and `]`
abbrev pub in_brackets : List ℕ → List ℕ
in_brackets part = 91 ∷ (part ++ 93 ∷ [])

-- between two quotes
abbrev pub in_quotes : List ℕ → List ℕ
in_quotes part = 34 ∷ (part ++ 34 ∷ [])

abbrev pub spelled_cookie : Option (List ℕ) → List (List ℕ)
spelled_cookie None = []
spelled_cookie (Some cookie) = in_quotes cookie ∷ []

abbrev pub spelled_client : Option Client → List (List ℕ)
spelled_client None = []
spelled_client (Some client) = in_quotes client.referer ∷ in_quotes client.agent ∷ spelled_cookie client.cookie

-- the parts in their order, the time in brackets, the request and what the client tells in quotes
abbrev pub spelled_parts : NcsaParts → List (List ℕ)
spelled_parts parts =
    parts.host
    ∷ parts.log_name
    ∷ parts.user
    ∷ in_brackets parts.time
    ∷ in_quotes parts.request
    ∷ parts.status
    ∷ parts.bytes
    ∷ spelled_client parts.client

-- a text is other texts, one or more spaces apart, and nothing before the first and behind the last
abbrev pub IsSpaced : List (List ℕ) → List ℕ → Type 0
IsSpaced [] text = text ≡ []
IsSpaced (first ∷ []) text = text ≡ first
IsSpaced (first ∷ next ∷ others) text = (more : ℕ) × ((rest : List ℕ) × ((text ≡ first ++ (replicate (more + 1) 32 ++ rest)) × IsSpaced (next ∷ others) rest))

-- a line has this form, with these parts
pub record IsNcsaLine (line : List ℕ) (parts : NcsaParts) : Type 0 where
  pub host : IsWord parts.host
  pub log_name : IsWord parts.log_name
  pub user : IsWord parts.user
  pub time : IsInBrackets parts.time
  pub request : IsInQuotes parts.request
  pub status : IsWord parts.status
  pub bytes : IsWord parts.bytes
  pub client : IfSome parts.client IsClient
  pub joined : IsSpaced (spelled_parts parts) line

-- ---- the row of a line

abbrev pub client_slots : Option Client → Slots
client_slots None = None ∷ None ∷ None ∷ []
client_slots (Some client) = field_of client.referer ∷ field_of client.agent ∷ option_and_then field_of client.cookie ∷ []

-- ten slots; a part that is `-` alone is none, and so is one that the line doesn't have
abbrev pub ncsa_row : NcsaParts → Slots
ncsa_row parts =
    field_of parts.host
    ∷ field_of parts.log_name
    ∷ field_of parts.user
    ∷ field_of parts.time
    ∷ field_of parts.request
    ∷ field_of parts.status
    ∷ field_of parts.bytes
    ∷ client_slots parts.client
