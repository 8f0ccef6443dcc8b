-- The numbers in the names of rotated files.
use Rattle.std.specs.Prelude.{◌≡◌, ℕ, ◌<◌, ◌≤◌, ◌^◌, List, ◌++◌, Contains}
use Rattle.run_model.specs.Logs.{number_text}

-- a text is this number: from 1 on, of 64 bits, without a sign or a leading zero
pub record IsPlain (text : List ℕ) (number : ℕ) : Type 0 where
  pub some : 1 ≤ number
  pub small : number < 2 ^ 64
  pub is : text ≡ number_text number

abbrev pub IsNotPlain : List ℕ → Type 0
IsNotPlain text = (number : ℕ) → IsPlain text number → ⊥

-- a text is that of a rotated file: from 1 to 2^63 - 1, without a sign or a leading zero
pub record IsNumber (text : List ℕ) (number : ℕ) : Type 0 where
  pub some : 1 ≤ number
  pub small : number < 2 ^ 63
  pub is : text ≡ number_text number

abbrev pub IsNoNumber : List ℕ → Type 0
IsNoNumber text = (number : ℕ) → IsNumber text number → ⊥

-- a name is that of a generation: a front, and the generation's number
pub record IsGenerationOf (front name : List ℕ) (number : ℕ) : Type 0 where
  pub text : List ℕ
  pub parts : name ≡ front ++ text
  pub is : IsNumber text number

abbrev pub IsNoGeneration : List ℕ → List ℕ → Type 0
IsNoGeneration front name = (number : ℕ) → IsGenerationOf front name number → ⊥

-- a generation has a name among these
pub record HasName (front : List ℕ) (names : List (List ℕ)) (number : ℕ) : Type 0 where
  pub name : List ℕ
  pub among : Contains names name
  pub of_name : IsGenerationOf front name number

-- an identity is that of a generation: a front, and the generation's number
pub record IsIdentityOf (front identity : List ℕ) (number : ℕ) : Type 0 where
  pub text : List ℕ
  pub parts : identity ≡ front ++ text
  pub is : IsPlain text number

abbrev pub IsNoIdentity : List ℕ → List ℕ → Type 0
IsNoIdentity front identity = (number : ℕ) → IsIdentityOf front identity number → ⊥
