-- What the firmware of one server, or of one client, links: each function of a device on lists of numbers. A list of the wrong
-- length, and one with a number that codes nothing, is refused with 2: "A number of a configuration or of a facade handed in is
-- outside its range."
-- A refusal leaves every list as it was, with outcome 0.
-- c, s, y and m are the lists of the configuration, the server, the client and the message; o is the list for what is sent.
-- k is a server's number, i a client's, r the clock reading.
use Rattle.std.specs.Prelude.{Bool, cond, List, ℕ, eqb, length, Result, Ok, Err}
use Rattle.types.specs.declared.Server.{Server}
use Rattle.types.specs.declared.Client.{Client}
use Rattle.types.specs.declared.Reaction.{Reaction}
use Rattle.types.specs.declared.Refusal.{Refusal}
use Rattle.types.specs.Numbers.{outcome_number, refusal_number}
use Rattle.rules.specs.Conditions.{◌and◌}
use Rattle.flat.specs.Flat.{config_in, server_numbers, server_in, client_numbers, client_in, message_in, outbox_numbers, codes_server, codes_client, codes_message}
use Rattle.device.specs.Device.{Reply, device_receives, device_noticed, device_returned, device_cleaned, device_hears, device_discovers, device_requests, device_renews, device_lapses}

-- What a call leaves: the refusal that it returns, the list of the server or client, what is sent, and the outcome.
pub record Left : Type 0 where
  pub refusal : ℕ
  pub party : List ℕ
  pub sent : List ℕ
  pub outcome : ℕ

abbrev pub leaves : ℕ → List ℕ → List ℕ → ℕ → Left
leaves refusal p o n = record { refusal = refusal; party = p; sent = o; outcome = n }

-- A server or a client, which is put as its numbers.

-- the new numbers and messages in the place of p and o, which a refusal leaves: "outcome (0 if refused)"
abbrev pub result_left : {A : Type 0} → (A → List ℕ) → Result (Reaction A) Refusal → List ℕ → List ℕ → Left
result_left numbers (Ok x) p o = leaves 0 (numbers x.after) (outbox_numbers x.outbox) (outcome_number x.outcome)
result_left numbers (Err n) p o = leaves (refusal_number n) p o 0

-- the same of the reply x: b is whether the lists code what they stand for
unfoldable pub party_left : {A : Type 0} → (A → List ℕ) → Bool → Reply A → List ℕ → List ℕ → Left
party_left numbers b x p o =
    cond (eqb (cond b x.refusal 2) 0)
    (leaves 0 (numbers x.answer.after) (outbox_numbers x.answer.outbox) (outcome_number x.answer.outcome))
    (leaves (cond b x.refusal 2) p o 0)

-- whether the lists are those of a configuration and a party, with room for what is sent
unfoldable pub are_lists : (List ℕ → Bool) → List ℕ → List ℕ → List ℕ → Bool
are_lists codes c p o = eqb (length c) 7 and eqb (length o) 29 and codes p

-- A server.

abbrev pub server_left : Bool → Reply Server → List ℕ → List ℕ → Left
server_left = party_left server_numbers

abbrev pub are_server_lists : List ℕ → List ℕ → List ℕ → Bool
are_server_lists = are_lists codes_server

unfoldable pub receive_message_left : List ℕ → ℕ → ℕ → List ℕ → List ℕ → List ℕ → Left
receive_message_left c k r s m o =
    server_left (are_server_lists c s o and codes_message m) (device_receives (config_in c 0) k r (server_in s 0) (message_in m 0)) s o

unfoldable pub take_notice_left : List ℕ → ℕ → ℕ → List ℕ → ℕ → ℕ → List ℕ → Left
take_notice_left c k r s about says o = server_left (are_server_lists c s o) (device_noticed (config_in c 0) k r (server_in s 0) about says) s o

unfoldable pub come_back_left : List ℕ → ℕ → ℕ → List ℕ → List ℕ → Left
come_back_left c k r s o = server_left (are_server_lists c s o) (device_returned (config_in c 0) k r (server_in s 0)) s o

unfoldable pub clean_up_left : List ℕ → ℕ → ℕ → List ℕ → List ℕ → Left
clean_up_left c k r s o = server_left (are_server_lists c s o) (device_cleaned (config_in c 0) k r (server_in s 0)) s o

-- A client.

abbrev pub client_left : Bool → Reply Client → List ℕ → List ℕ → Left
client_left = party_left client_numbers

abbrev pub are_client_lists : List ℕ → List ℕ → List ℕ → Bool
are_client_lists = are_lists codes_client

unfoldable pub receive_reply_left : List ℕ → ℕ → ℕ → List ℕ → List ℕ → List ℕ → Left
receive_reply_left c i r y m o =
    client_left (are_client_lists c y o and codes_message m) (device_hears (config_in c 0) i r (client_in y 0) (message_in m 0)) y o

-- q is the new interaction
unfoldable pub discover_left : List ℕ → ℕ → ℕ → List ℕ → ℕ → List ℕ → Left
discover_left c i r y q o = client_left (are_client_lists c y o) (device_discovers (config_in c 0) i r (client_in y 0) q) y o

-- t is the wanted end
unfoldable pub request_left : List ℕ → ℕ → ℕ → List ℕ → ℕ → List ℕ → Left
request_left c i r y t o = client_left (are_client_lists c y o) (device_requests (config_in c 0) i r (client_in y 0) t) y o

unfoldable pub renew_left : List ℕ → ℕ → ℕ → List ℕ → ℕ → ℕ → List ℕ → Left
renew_left c i r y t q o = client_left (are_client_lists c y o) (device_renews (config_in c 0) i r (client_in y 0) t q) y o

unfoldable pub pass_time_left : List ℕ → ℕ → ℕ → List ℕ → List ℕ → Left
pass_time_left c i r y o = client_left (are_client_lists c y o) (device_lapses (config_in c 0) i r (client_in y 0)) y o
