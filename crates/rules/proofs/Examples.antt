-- The claims about the tables of worked examples, computed by the definitions.
use Rattle.std.specs.Prelude.{◌≡◌, refl, map}
use Rattle.types.specs.declared.State.TheVariants.{Holding}
use Rattle.rules.specs.Parts.{server_at, state_at, potlease_at}
use Rattle.rules.specs.Steps.{run}
use Rattle.rules.specs.Examples.{answered, row_config, server_of, plain, row_facade, server_row, mail_row, client_row, bit, held_until, is_taken, end_named, sent_ends, reading, lives_if, three_servers, notices, leaders, answer, row, table, rig, rig_start, line_of, lines, printed}

-- the claim: the rules give what the table says
rows_hold : map (λ x. answer x.ask) table ≡ map (λ x. x.gives) table
unfolding answered row_config server_of plain row_facade server_row mail_row client_row bit held_until is_taken end_named sent_ends reading lives_if three_servers notices leaders answer row table
rows_hold = refl

-- the fourteen lines, and the lease at the end: client 0 holds address 0 until 19, with 100 on record at server 0
rig_holds : (lines rig_start rig ≡ printed) × (state_at (run rig_start rig) 0 ≡ Holding 0 19 1) × (potlease_at (server_at (run rig_start rig) 0) 0 ≡ 100)
unfolding answered rig rig_start line_of lines printed
rig_holds = (refl, refl, refl)
