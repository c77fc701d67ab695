-- Clients in threads of their own, and the text of their counts.
use Rattle.std.specs.Prelude.{◌≡◌, ◌<◌, ◌+◌, ◌++◌, ◌⊎◌, ℕ, zero, suc, true, false, List, [], length, get_or, Some, codes, decimal}
use Rattle.std.specs.List.{flat_map, enumerate_from}
use Rattle.timer_threads.specs.Types.{LAST, DriveEnd, ThreadsFault, Worked, RingInlet, RequestsEnded, ClientReader, Child}
use Rattle.timer_wheels.specs.Tables.{layout_of_table}
use Rattle.timer_wheels.specs.declared.table.Table.TheVariants.{Wide}
use Rattle.timer_desk.specs.declared.looks.Found.TheVariants.{Nothing}
use Rattle.timer_desk.specs.declared.driver.DriveEnd.TheVariants as DriveEnds
use Rattle.timer_facility.specs.State.{FacilityState, opened}
use Rattle.timer_desk.specs.Desk.{DeskState, opened_desk, IsIdle, backlog_at}
use Rattle.timer_desk.specs.Driver.{Drives}
use Rattle.timer_desk.specs.WindingUp.{IsWaiting}
use Rattle.timer_desk.specs.RingEnds.{line_of_end, line_of_inlet, got_of, given_of, is_settled, free_of_inlet, found_by_inlet, all_submitted, read_by, unread_by, is_settled_reader, ring_lines}
use Rattle.timer_threads.specs.declared.outcome.ThreadsFault.TheVariants as Faults
use Rattle.timer_threads.specs.Children.{promise_of}
use Rattle.timer_threads.specs.Work.{IsOfLine, IsNewEnd, IsWork, IsWhole}
use Rattle.timer_threads.specs.Results.{is_failed, NoneFailed, AllRequestsEnded}

-- nothing was taken from this inlet, given to it or seen of its client's end, and it has room for 64 words
pub record IsNewInlet (inlet : RingInlet) : Type 0 where
  pub none_got : got_of inlet ≡ []
  pub none_given : given_of inlet ≡ []
  pub none_found : found_by_inlet inlet ≡ Nothing
  pub room : free_of_inlet inlet ≡ 64
  pub unsettled : is_settled inlet ≡ false

-- so for each
abbrev pub AreNewInlets : List RingInlet → Type 0
AreNewInlets inlets = (k : ℕ) (i : RingInlet) → k < length inlets → IsNewInlet (get_or inlets k i)

-- an open facility of 65,536 timers at tick 0 over the wide hierarchy, in which no timer is pending, and from whose
-- clients no request was taken
abbrev pub new_facility : ℕ → FacilityState
new_facility clients = opened (record {
  clients = clients;
  capacity = 65536;
  first_tick = 0;
  first_serial = 1;
  first_number = 1;
}) LAST (layout_of_table Wide)

-- a new desk, with empty outboxes for 1,024 words, over new lines
pub record IsFreshDesk (clients : ℕ) (desk : DeskState RingInlet) : Type 0 where
  pub lines : AreNewInlets desk.inlets
  pub is : desk ≡ opened_desk (new_facility clients) desk.inlets 1024

-- the thread was started with the new end of this new line, with this many requests to send and with this limit
pub record IsThreadOfLine (count limit : ℕ) (inlet : RingInlet) (child : Child) : Type 0 where
  pub line : line_of_inlet inlet ≡ line_of_end (promise_of child).end.value
  pub count_is : (promise_of child).count ≡ count
  pub limit_is : (promise_of child).limit ≡ limit
  pub inlet_new : IsNewInlet inlet
  pub end_new : IsNewEnd (promise_of child).end.value

-- so at each index
pub record AreThreadsOfLines (count limit : ℕ) (inlets : List RingInlet) (children : List Child) : Type 0 where
  pub as_many : length children ≡ length inlets
  pub each : (k : ℕ) (i : RingInlet) (h : Child) → k < length inlets
      → IsThreadOfLine count limit (get_or inlets k i) (get_or children k h)

-- what the client at each index left is of the line of the inlet at that index
pub record AreOfLines (inlets : List RingInlet) (all : List Worked) : Type 0 where
  pub as_many : length all ≡ length inlets
  pub each : (k : ℕ) (i : RingInlet) (w : Worked) → k < length inlets
      → IsOfLine (line_of_inlet (get_or inlets k i)) (get_or all k w)

-- the line of a client
abbrev pub client_line : ℕ → ℕ → ℕ → ℕ → List ℕ
client_line client sent started expired =
    codes "client " ++ decimal client ++ codes " sent " ++ decimal sent
    ++ codes " started " ++ decimal started ++ codes " expired " ++ decimal expired ++ codes "\n"

-- the line of a client, by its number and what it left
abbrev pub client_text : ℕ × Worked → List ℕ
client_text client = client_line client.0 client.1.sent client.1.started client.1.expired

-- the lines of the clients from this number on
abbrev pub clients_text : ℕ → List Worked → List ℕ
clients_text client all = flat_map client_text (enumerate_from client all)

-- each that did not fail sent all its requests, and as many timers started and expired
abbrev pub AllWhole : ℕ → List Worked → Type 0
AllWhole timers all = (k : ℕ) (w : Worked) → k < length all → IsWhole timers (get_or all k w)

-- no word is left for any of these readers
abbrev pub NoneUnread : List ClientReader → Type 0
NoneUnread readers = (c : ℕ) (r : ClientReader) → c < length readers → unread_by (get_or readers c r) ≡ []

-- each of these readers is settled
abbrev pub AreSettled : List ClientReader → Type 0
AreSettled readers = (c : ℕ) (r : ClientReader) → c < length readers → is_settled_reader (get_or readers c r) ≡ true

-- a word is left for this reader, and none for those before it
pub record IsFirstWithWords (readers : List ClientReader) (c : ℕ) : Type 0 where
  pub client : c < length readers
  pub unread : (r : ClientReader) → 0 < length (unread_by (get_or readers c r))
  pub before : (k : ℕ) (r : ClientReader) → k < c → unread_by (get_or readers k r) ≡ []

-- no request of this client is held, all that it submitted was taken from its line, and its outbox is empty
pub record IsServed (desk : DeskState RingInlet) (all : List Worked) (c : ℕ) : Type 0 where
  pub idle : IsIdle (backlog_at desk c)
  pub got : (i : RingInlet) (w : Worked) (e : RequestsEnded) → (get_or all c w).ended ≡ Some e
      → all_submitted e ≡ got_of (get_or desk.inlets c i)

-- so for each client
abbrev pub AllServed : DeskState RingInlet → List Worked → Type 0
AllServed desk all = (c : ℕ) → c < length all → IsServed desk all c

-- each client is served, and has read all that it was given
pub record IsWoundUp (desk : DeskState RingInlet) (all : List Worked) : Type 0 where
  pub served : AllServed desk all
  pub read : (c : ℕ) (i : RingInlet) (w : Worked) → c < length all
      → read_by (get_or all c w).reader ≡ given_of (get_or desk.inlets c i)

-- the desk reached its goal, no client failed, and the desk was wound up
pub record HasSucceeded (desk : DeskState RingInlet) (outcome : DriveEnd) (all : List Worked) : Type 0 where
  pub done : outcome ≡ DriveEnds.Done
  pub good : NoneFailed all
  pub wound : IsWoundUp desk all

-- nothing of any client waits, and this is the first that has not read all that it was given
pub record IsFirstUnread (desk : DeskState RingInlet) (all : List Worked) (c : ℕ) : Type 0 where
  pub served : AllServed desk all
  pub unread : (i : RingInlet) (w : Worked)
      → length (read_by (get_or all c w).reader) < length (given_of (get_or desk.inlets c i))
  pub before : (k : ℕ) (i : RingInlet) (w : Worked) → k < c
      → read_by (get_or all k w).reader ≡ given_of (get_or desk.inlets k i)

-- a request or a word of this client waits; or it is the first that has not read all
abbrev pub IsUnfinished : DeskState RingInlet → List Worked → ℕ → Type 0
IsUnfinished desk all c =
    ((i : RingInlet) (w : Worked) (e : RequestsEnded) → (get_or all c w).ended ≡ Some e
    → IsWaiting (backlog_at desk c) (got_of (get_or desk.inlets c i)) (all_submitted e))
    ⊎ IsFirstUnread desk all c

-- this client is unfinished, and each before it is served
pub record IsFirstNotServed (desk : DeskState RingInlet) (all : List Worked) (c : ℕ) : Type 0 where
  pub client : c < length all
  pub back : IsUnfinished desk all c
  pub before : (k : ℕ) → k < c → IsServed desk all k

-- this client failed or is unfinished. None before it failed; and if the requests of each client could be
-- ended, each before it is served.
pub record IsFirstClient (desk : DeskState RingInlet) (all : List Worked) (c : ℕ) : Type 0 where
  pub client : c < length all
  pub reason : ((w : Worked) → is_failed (get_or all c w) ≡ true) ⊎ IsUnfinished desk all c
  pub others : (k : ℕ) (w : Worked) → k < c → is_failed (get_or all k w) ≡ false
  pub served : AllRequestsEnded all → (k : ℕ) → k < c → IsServed desk all k

-- the first error of the desk and of the clients: memory, then clients, then the desk
abbrev pub IsFirstFault : DeskState RingInlet → DriveEnd → List Worked → ThreadsFault → Type 0
IsFirstFault desk outcome all Faults.OutOfMemory = Unit {0}
IsFirstFault desk outcome all (Faults.Client c) = ¬ (outcome ≡ DriveEnds.OutOfMemory)
    × IsFirstClient desk all c
IsFirstFault desk outcome all Faults.Desk = (outcome ≡ DriveEnds.Limit) × NoneFailed all × IsWoundUp desk all

-- a new desk was driven beside the clients, each did its work, and of the desk and of what they left this holds
pub record IsThreadsRun (clients timers limit : ℕ)
    (Ends : DeskState RingInlet → DriveEnd → List Worked → Type 0) : Type 0 where
  pub opened : DeskState RingInlet
  pub new : IsFreshDesk clients opened
  pub desk : DeskState RingInlet
  pub outcome : DriveEnd
  pub all : List Worked
  pub as_many : length all ≡ clients
  pub lines : AreOfLines desk.inlets all
  pub driven : Drives ring_lines timers limit opened desk outcome
  pub worked : (k : ℕ) (w : Worked) → k < length all → IsWork timers limit (get_or all k w)
  pub ends : Ends desk outcome all

-- unless memory ran out, the error is the first one of such a run
abbrev pub IsExplained : ℕ → ℕ → ℕ → ThreadsFault → Type 0
IsExplained clients timers limit Faults.OutOfMemory = Unit {0}
IsExplained clients timers limit fault = IsThreadsRun clients timers limit
    (λ desk outcome all. IsFirstFault desk outcome all fault)

-- the lines of `clients` clients from number `client` on, each with `timers` timers sent, started and expired
abbrev pub whole_lines : ℕ → ℕ → ℕ → List ℕ
whole_lines client zero timers = []
whole_lines client (suc clients) timers = client_line client timers timers timers
    ++ whole_lines (client + 1) clients timers

-- the text of `clients` clients, each with `timers` timers sent, started and expired
abbrev pub whole_text : ℕ → ℕ → List ℕ
whole_text clients timers = whole_lines 0 clients timers ++ codes "end\n"
