-- What the types of the code say of a facade: the lengths of its arrays, and that an offset is a signed number of 32 bits.
use Rattle.std.specs.Prelude.{◌≡◌, List, ℕ, length, All}
use Rattle.std.specs.Int.{w32}
use Rattle.std.proofs.Common.{SFits}
use Rattle.types.specs.declared.OpenWrite.{OpenWrite}
use Rattle.types.specs.declared.Server.{Server}
use Rattle.types.specs.declared.Outbox.{Outbox}
use Rattle.types.specs.declared.Facade.{Facade}

-- no shape is asked of a value
abbrev pub Any : {A : Type 0} → A → Type 0
Any x = Unit

-- so many elements, and P holds of each
pub record Has {A : Type 0} (n : ℕ) (P : A → Type 0) (xs : List A) : Type 0 where
  pub many : length xs ≡ n
  pub each : All P xs

abbrev pub WriteShaped : OpenWrite → Type 0
WriteShaped w = length w.acked ≡ 4

pub record ServerShaped (s : Server) : Type 0 where
  pub believed : length s.believed ≡ 4
  pub leads : length s.leads ≡ 32
  pub reserved : length s.reserved ≡ 32
  pub lent : length s.lent ≡ 32
  pub potlease : length s.potlease ≡ 32
  pub writes : Has 32 WriteShaped s.writes

abbrev pub OutboxShaped : Outbox → Type 0
OutboxShaped o = length o.messages ≡ 4

pub record FacadeShaped (f : Facade) : Type 0 where
  pub offsets : Has 36 (SFits w32) f.offsets
  pub servers : Has 4 ServerShaped f.servers
  pub notices : Has 4 (Has 4 Any) f.notices
  pub clients : length f.clients ≡ 32
  pub messages : length f.messages ≡ 128
