-- Every limit of this profile, by its one name: definitions, clauses and code cite these.
use Rattle.std.specs.Prelude.{ℕ, ◌-◌, ◌^◌}

-- ---- configuration: streams each way; sizes in bytes

-- streams each way, 1 to this many
abbrev pub STREAM_LIMIT : ℕ
STREAM_LIMIT = 1_024

-- the packet limit for sending
abbrev pub LEAST_PACKET : ℕ
LEAST_PACKET = 576

-- and the most
abbrev pub GREATEST_PACKET : ℕ
GREATEST_PACKET = 1_500

-- the data of a fragment; all but a message's last have the full size (RFC 9260, 6.9)
abbrev pub LEAST_FRAGMENT : ℕ
LEAST_FRAGMENT = 4

-- and the most
abbrev pub GREATEST_FRAGMENT : ℕ
GREATEST_FRAGMENT = 1_400

-- what a full fragment, padded, leaves of a packet: the common header and the larger chunk header (RFC 8260, 2.1)
abbrev pub FRAGMENT_OVERHEAD : ℕ
FRAGMENT_OVERHEAD = 32

-- the buffer of a receiver
abbrev pub LEAST_BUFFER : ℕ
LEAST_BUFFER = 65_536

-- and the most
abbrev pub GREATEST_BUFFER : ℕ
GREATEST_BUFFER = 16_777_216

-- ---- sending

-- bytes of a message
abbrev pub LONGEST_MESSAGE : ℕ
LONGEST_MESSAGE = 65_536

-- messages accepted and without a number, at once
abbrev pub QUEUE_LIMIT : ℕ
QUEUE_LIMIT = 1_024

-- indexes assigned above the acknowledged one, and messages in part, at once
abbrev pub WINDOW : ℕ
WINDOW = 32_767

-- TSNs assigned and those still owed
abbrev pub TSN_LIMIT : ℕ
TSN_LIMIT = 2 ^ 63 - 1

-- tickets are 1 to this
abbrev pub TICKET_LIMIT : ℕ
TICKET_LIMIT = 2 ^ 64 - 1

-- requests to reset streams that an endpoint makes: so their sequence numbers are within half of their space
abbrev pub REQUEST_LIMIT : ℕ
REQUEST_LIMIT = 2 ^ 31 - 1

-- streams of one request: with them it fits a packet of every limit (RFC 6525, 4.1)
abbrev pub RESETS_AT_ONCE : ℕ
RESETS_AT_ONCE = 256

-- ---- the network

-- A packet arrives before this many more TSNs have been assigned since it was built: half their space, less a window on each side of what it says, so that
-- its TSNs are read as they were meant (RFC 9260, 2.6 and 6.1).
abbrev pub AGE_LIMIT : ℕ
AGE_LIMIT = 2 ^ 31 - 65_536

-- ---- receiving

-- gap blocks and duplicates in a SACK (RFC 9260, 3.3.4)
abbrev pub BLOCK_LIMIT : ℕ
BLOCK_LIMIT = 64

-- and duplicates
abbrev pub DUPLICATE_LIMIT : ℕ
DUPLICATE_LIMIT = 16

-- maximal runs above the cumulative index: an index may lie at most WINDOW above it
abbrev pub RUN_LIMIT : ℕ
RUN_LIMIT = 16_383

-- ---- time, in milliseconds

-- the last time that there is
abbrev pub LAST_MOMENT : ℕ
LAST_MOMENT = 2 ^ 64 - 1

-- a timer's first wait (RTO.Initial of RFC 9260, 16)
abbrev pub FIRST_WAIT : ℕ
FIRST_WAIT = 1_000

-- and its longest (RTO.Max of RFC 9260, 16)
abbrev pub LONGEST_WAIT : ℕ
LONGEST_WAIT = 60_000

-- how long a SACK may wait for another packet, if an endpoint delays its SACKs (at most 500 by RFC 9260, 6.2, which recommends this: SACK.Delay of 16)
abbrev pub SACK_DELAY : ℕ
SACK_DELAY = 200

-- how often an INIT or a COOKIE ECHO is repeated (Max.Init.Retransmits of RFC 9260, 16)
abbrev pub OPENING_REPEATS : ℕ
OPENING_REPEATS = 8

-- and everything else (Association.Max.Retrans of RFC 9260, 16)
abbrev pub REPEATS : ℕ
REPEATS = 10

-- how long a cookie lives (Valid.Cookie.Life of RFC 9260, 16)
abbrev pub COOKIE_LIFE : ℕ
COOKIE_LIFE = 60_000

-- the smallest RTO of an endpoint with round trips, if no other is asked for (RTO.Min of RFC 9260, 16)
abbrev pub LEAST_WAIT : ℕ
LEAST_WAIT = 1_000

-- the granularity of the clock (G of RFC 9260, 6.3.1)
abbrev pub TICK : ℕ
TICK = 1

-- ---- congestion control

-- the packets by which an acknowledgement may open the congestion window in slow start, at most (L of RFC 9260, 7.2.1)
abbrev pub GREATEST_GROWTH : ℕ
GREATEST_GROWTH = 16

-- packets that may be sent for one acknowledgement (Max.Burst of RFC 9260, 16)
abbrev pub BURST : ℕ
BURST = 4

-- the constant of the initial congestion window, in bytes (RFC 9260, 7.2.1, for IPv4)
abbrev pub FIRST_WINDOW : ℕ
FIRST_WINDOW = 4_404

-- the largest congestion window: no peer can advertise more (RFC 9260, 3.3.4)
abbrev pub GREATEST_WINDOW : ℕ
GREATEST_WINDOW = 2 ^ 32 - 1
