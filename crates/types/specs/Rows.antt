-- Numbers side by side: of a configuration, and of a step.
use Rattle.std.specs.Prelude.{ℕ, List, [], ◌∷◌, get_or}
use Rattle.types.specs.declared.Config.{Config}
use Rattle.types.specs.declared.Step.{Step}

abbrev pub config_from : List ℕ → Config
config_from l = record {
  servers = get_or l 0 0;
  clients = get_or l 1 0;
  addresses = get_or l 2 0;
  skew = get_or l 3 0;
  detection = get_or l 4 0;
  mclt = get_or l 5 0;
  retention = get_or l 6 0;
}

abbrev pub config_row : Config → List ℕ
config_row c = c.servers ∷ c.clients ∷ c.addresses ∷ c.skew ∷ c.detection ∷ c.mclt ∷ c.retention ∷ []

abbrev pub step_from : List ℕ → Step
step_from l = record { kind = get_or l 0 0; first = get_or l 1 0; second = get_or l 2 0; third = get_or l 3 0 }

abbrev pub step_row : Step → List ℕ
step_row s = s.kind ∷ s.first ∷ s.second ∷ s.third ∷ []
