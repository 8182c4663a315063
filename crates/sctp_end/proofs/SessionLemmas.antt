-- What the endpoint's calls make of a session.
use Rattle.std.proofs.Common.{◌≡◌, ◌∙◌, ℕ, Bool, true, false, List, [], ◌∷◌, ◌⊎◌, inl, inr, None, refl, sym, ap, subst}
use Rattle.std.specs.Prelude.{not, ◌||◌, max, length, Option, Some, None, Result, Ok, Err, slice_get}
use Rattle.std.specs.declared.vec.Vec.{Vec}
use Rattle.std.specs.declared.alloc.Global.{Global}
use Rattle.sctp_model.specs.numbers.Numbers.{AreBytes}
use Rattle.sctp_model.specs.wire.Chunk.{ChunkMeaning}
use Rattle.sctp_model.specs.wire.Packet.{Packet}
use Rattle.sctp_model.specs.world.Calls.{Call as Message}
use Rattle.sctp_model.specs.messages.Framing.{lane_kind}
use Rattle.sctp_model.specs.sender.Queueing as queueing
use Rattle.sctp_model.specs.sender.Queueing.{refusal}
use Rattle.sctp_model.specs.receiver.ReceiverView.{Handed}
use Rattle.sctp_model.specs.end.EndView.{EndView}
use Rattle.sctp_model.specs.end.Clock.{at_moment}
use Rattle.sctp_model.specs.end.Closing.{hears}
use Rattle.sctp_model.specs.end.Strays as strays
use Rattle.sctp_model.specs.end.Building.{Builds, packet_of}
use Rattle.sctp_model.specs.end.Moments.{ticked}
use Rattle.sctp_model.specs.end.UserCalls as model
use Rattle.sctp_model.specs.end.UserCalls.{is_established, send_answer, send_leaves, abort_leaves, is_update, updating, UserTakes}
use Rattle.sctp_values.specs.declared.kind.Kind.{Kind}
use Rattle.sctp_values.specs.declared.no_memory.NoMemory.{NoMemory}
use Rattle.sctp_values.specs.declared.ticket.Ticket.{Ticket}
use Rattle.sctp_values.specs.Meanings.{kind_meaning}
use Rattle.sctp_terms.specs.declared.reason.Reason.{Reason}
use Rattle.sctp_terms.specs.PlainOptions.{HasPlainOptions}
use Rattle.sctp_packet.specs.declared.fault.PacketFault.{PacketFault}
use Rattle.sctp_packet.specs.PacketLaws.{ReadInOneWay}
use Rattle.sctp_packet.specs.PacketBytes.{ReadsPacket, FaultsPacket, WritesPacket}
use Rattle.sctp_send.specs.SenderAnswers.{lane_for}
use Rattle.sctp_association.specs.declared.build.sendings.Sendings.{Sendings}
use Rattle.sctp_association.specs.AbortAnswers.{AbortAnswers, aborted_view}
use Rattle.sctp_association.specs.CallAnswers.{call_of, SendAnswers, sent_view}
use Rattle.sctp_association.specs.Sends.{Sends}
use Rattle.sctp_endpoint.specs.declared.after.Verdict.{Verdict}
use Rattle.sctp_endpoint.specs.declared.after.Verdict.TheVariants as verdict
use Rattle.sctp_endpoint.specs.declared.endpoint.Endpoint.{Endpoint}
use Rattle.sctp_endpoint.specs.declared.transmit.Sent.{Sent}
use Rattle.sctp_endpoint.specs.Counted.{Counted, counted, with_packet, with_arrival, sacks_read, heard_counts, aborted_counts, CountsSent}
use Rattle.sctp_endpoint.specs.EndpointStands.{EndpointStands}
use Rattle.sctp_endpoint.specs.Handled.{IsRead, Handled, VerdictStands}
use Rattle.sctp_end.specs.declared.call.Call.{Call}
use Rattle.sctp_end.specs.declared.call.Call.TheVariants as call
use Rattle.sctp_end.specs.declared.reply.Reply.{Reply}
use Rattle.sctp_end.specs.declared.reply.Reply.TheVariants as reply
use Rattle.sctp_end.specs.Counting.{packet_counts, build_counts, abort_counts}
use Rattle.sctp_end.specs.Performing.{Standing, message_of, send_reply, TellsPacket, Performs, TimePasses, PacketComes, PacketCut, BuildsOne, AbortsIt, WantsMemory, may_want}
use Rattle.sctp_end.specs.inner.Refusing.{SendTold, AbortTold}

-- ---- messages

twice : (b : Bool) → lane_kind (not (not b)) ≡ lane_kind b
twice true = refl
twice false = refl

pub same_message : (stream : ℕ) (kind : Kind) (payload : ℕ) (until limit : Option ℕ) (bytes items : List ℕ) (b : Bool) → lane_kind b ≡ kind_meaning kind → items ≡ bytes
    → record (call_of (lane_for stream (not b)) payload items until) { limit = limit } ≡ message_of stream kind payload until limit bytes
same_message stream kind payload until limit bytes items b flag is = λ i. record {
  lane = record { stream = stream; kind = (twice b ∙ flag) i };
  payload = payload;
  bytes = is i;
  until = until;
  limit = limit;
}

-- the first of the messages that wait
first_there : (xs : List Handed) (h k : Handed) (rest : List Handed) → slice_get xs 0 ≡ Some h → xs ≡ k ∷ rest → h ≡ k
first_there [] h k rest there is = cc
first_there (x ∷ xs) h k rest there is = cc

none_there : (xs : List Handed) (h : Handed) → slice_get xs 0 ≡ Some h → xs ≡ [] → ⊥
none_there [] h there is = cc
none_there (x ∷ xs) h there is = cc

pub took : (v : EndView) (stream : ℕ) (o : Option Handed) (t : EndView) (h : Handed) → slice_get (v.receiver.waiting stream) 0 ≡ Some h → UserTakes v stream o t
    → UserTakes v stream (Some h) t
took v stream None t h there takes = absurd (none_there _ h there takes.takes.0)
took v stream (Some k) t h there takes = subst (λ (x : Handed). UserTakes v stream (Some x) t) (sym (first_there _ h k takes.takes.0 there takes.takes.1)) takes

none_left : (xs : List Handed) → slice_get xs 0 ≡ None → xs ≡ []
none_left [] is = refl
none_left (x ∷ xs) is = cc

-- no SACK is due by it, if options are plain
unupdating : (v : EndView) → HasPlainOptions v.configuration → updating v ≡ v
unupdating v o = ap (λ (b : Bool). record v { due = record v.due { sack = b } }) (ap (λ (b : Bool). v.due.sack || b) none ∙ or_none v.due.sack)
  where
    none : is_update v ≡ false
    none = rw o.updates refl

    or_none : (b : Bool) → (b || false) ≡ b
    or_none true = refl
    or_none false = refl

pub nothing_waits : (v : EndView) (stream : ℕ) → HasPlainOptions v.configuration → slice_get (v.receiver.waiting stream) 0 ≡ None → UserTakes v stream None v
nothing_waits v stream o is = record { receiver = v.receiver; takes = (none_left _ is, refl); leaves = sym (unupdating v o) }

-- ---- what is counted

-- what is left is the same if the same is counted
pub counted_as : (s : Standing) (c : Call) (r : Reply) (w : EndView) (said n : Counted) → n ≡ said → Performs s c r (record s { view = w; counts = said })
    → Performs s c r (record s { view = w; counts = n })
counted_as s c r w said n same = subst (λ (x : Counted). Performs s c r (record s { view = w; counts = x })) (sym same)

pub time_passes : (s : Standing) (m now : ℕ) (n : Counted) → n ≡ s.counts → now ≡ max s.now m
    → Performs s (call.At m) reply.Done (record s { view = ticked s.view now; counts = n; now = now })
time_passes s m now n same is =
    subst (λ (x : Counted). Performs s (call.At m) reply.Done (record s { view = ticked s.view now; counts = x; now = now })) (sym same) (TimePasses m now is)

-- ---- a packet that came

told_taken : (x : strays.Verdict) → VerdictStands verdict.Taken x → TellsPacket x reply.Taken
told_taken x is = rw is refl

told_dropped : (reason : Reason) (x : strays.Verdict) → VerdictStands (verdict.Dropped reason) x → TellsPacket x (reply.Dropped reason)
told_dropped reason x is = rw is (reason, refl, refl)

told_answer : (packet : Vec ℕ Global) (bytes : List ℕ) (x : strays.Verdict) → bytes ≡ packet.items → VerdictStands (verdict.Answer packet) x → TellsPacket x (reply.Answer bytes)
told_answer packet bytes (strays.Answer p) is writes = (bytes, subst (λ (ys : List ℕ). WritesPacket ys p) (sym is) writes, refl)
told_answer packet bytes (strays.Dropped n) is writes = absurd writes
told_answer packet bytes strays.Taken is writes = absurd writes

-- what is counted of it, by the answer
abbrev CountsAs : Verdict → Reply → Type 0
CountsAs told r = (n k : ℕ) (c : Counted) → heard_counts n k (Ok told) c ≡ packet_counts n k r c

answer_counts : (packet : Vec ℕ Global) (bytes : List ℕ) → bytes ≡ packet.items → CountsAs (verdict.Answer packet) (reply.Answer bytes)
answer_counts packet bytes is = λ n k c. ap (λ (ys : List ℕ). with_packet (length ys) (with_arrival n c)) (sym is)

-- bytes are a packet or have a fault
pub is_read : (bytes : List ℕ) → ReadInOneWay bytes → AreBytes bytes → (o : Option Packet) × IsRead bytes o
is_read bytes law are = by (law.one_of_them are)
  where
    by : ((p : Packet) × ReadsPacket bytes p) ⊎ ((f : PacketFault) × FaultsPacket bytes f) → (o : Option Packet) × IsRead bytes o
    by (inl reads) = (Some reads.0, reads.1)
    by (inr faults) = (None, faults)

pub came_as : (shown bytes : List ℕ) → shown ≡ bytes → (o : Option Packet) × IsRead shown o → (o : Option Packet) × IsRead bytes o
came_as shown bytes is read = (read.0, subst (λ (ys : List ℕ). IsRead ys read.0) is read.1)

-- the call was made, and the end that it leaves is this one
abbrev pub Leaves : Standing → Call → Reply → Endpoint → Type 0
Leaves s c r e = (w : EndView) × Performs s c r (record s { view = w; counts = counted e }) × EndpointStands e w

-- what handling these bytes tells, whatever they are
abbrev Handles : Standing → List ℕ → Result Verdict NoMemory → Endpoint → Type 0
Handles s shown told e = (o : Option Packet) → IsRead shown o → Handled s.view s.now s.draw o told e × (counted e ≡ heard_counts (length shown) (sacks_read o) told s.counts)

heard : (s : Standing) (bytes shown : List ℕ) (told : Verdict) (e : Endpoint) (r : Reply) → ((o : Option Packet) × IsRead bytes o) → shown ≡ bytes
    → Handles s shown (Ok told) e → ((x : strays.Verdict) → VerdictStands told x → TellsPacket x r) → CountsAs told r → Leaves s (call.Packet bytes) r e
heard s bytes shown told e r (o, reads) is h tells counts =
    let (came, more) = h o (subst (λ (ys : List ℕ). IsRead ys o) (sym is) reads) in
    let same : counted e ≡ packet_counts (length bytes) (sacks_read o) r s.counts =
    more ∙ (counts (length shown) (sacks_read o) s.counts ∙ ap (λ (ys : List ℕ). packet_counts (length ys) (sacks_read o) r s.counts) is) in
    (came.0, counted_as s (call.Packet bytes) r came.0 _ (counted e) same (PacketComes bytes o came.0 came.1 r reads came.2 (tells came.1 came.3)), came.4)

pub heard_taken : (s : Standing) (bytes shown : List ℕ) (e : Endpoint) → ((o : Option Packet) × IsRead bytes o) → shown ≡ bytes
    → Handles s shown (Ok verdict.Taken) e → Leaves s (call.Packet bytes) reply.Taken e
heard_taken s bytes shown e reads is h = heard s bytes shown verdict.Taken e reply.Taken reads is h told_taken (λ n k c. refl)

pub heard_dropped : (s : Standing) (bytes shown : List ℕ) (reason : Reason) (e : Endpoint) → ((o : Option Packet) × IsRead bytes o) → shown ≡ bytes
    → Handles s shown (Ok (verdict.Dropped reason)) e → Leaves s (call.Packet bytes) (reply.Dropped reason) e
heard_dropped s bytes shown reason e reads is h = heard s bytes shown (verdict.Dropped reason) e (reply.Dropped reason) reads is h (told_dropped reason) (λ n k c. refl)

pub heard_answer : (s : Standing) (bytes shown : List ℕ) (packet : Vec ℕ Global) (answer : List ℕ) (e : Endpoint) → ((o : Option Packet) × IsRead bytes o) → shown ≡ bytes
    → Handles s shown (Ok (verdict.Answer packet)) e → answer ≡ packet.items → Leaves s (call.Packet bytes) (reply.Answer answer) e
heard_answer s bytes shown packet answer e reads is h same = heard s bytes shown (verdict.Answer packet) e (reply.Answer answer) reads is h (λ x. told_answer packet answer x same)
    (answer_counts packet answer same)

pub cut_short : (s : Standing) (bytes shown : List ℕ) (why : NoMemory) (e : Endpoint) → ((o : Option Packet) × IsRead bytes o) → shown ≡ bytes
    → Handles s shown (Err why) e → Leaves s (call.Packet bytes) reply.NoMemory e
cut_short s bytes shown why e (o, reads) is h =
    let (came, more) = h o (subst (λ (ys : List ℕ). IsRead ys o) (sym is) reads) in
    (came.0, counted_as s (call.Packet bytes) reply.NoMemory came.0 s.counts (counted e) more (PacketCut bytes o came.0 reads came.1 came.3), came.2)

-- ---- a packet that is built

built_at : (s : Standing) (bytes : List ℕ) (cs : List ChunkMeaning) (t : EndView) (n : Sendings) → Builds (at_moment s.view s.now) cs t
    → WritesPacket bytes (packet_of (at_moment s.view s.now) cs) → Sends (at_moment s.view s.now) cs n
    → Performs s call.Build (reply.Sent bytes) (record s { view = t; counts = build_counts (length bytes) (at_moment s.view s.now) t n s.counts })
built_at s bytes [] t n builds writes sends = absurd (writes.some refl)
built_at s bytes (x ∷ xs) t n builds writes sends = BuildsOne bytes x xs t n builds writes sends

pub built_one : (s : Standing) (sent : Sent) (bytes : List ℕ) (e : Endpoint) → CountsSent (at_moment s.view s.now) sent e s.counts
    → bytes ≡ sent.packet.items → Leaves s call.Build (reply.Sent bytes) e
built_one s sent bytes e h is =
    let same : counted e ≡ build_counts (length bytes) (at_moment s.view s.now) h.after h.sendings s.counts =
    h.counts ∙ ap (λ (ys : List ℕ). build_counts (length ys) (at_moment s.view s.now) h.after h.sendings s.counts) (sym is) in (
      h.after,
      counted_as s call.Build (reply.Sent bytes) h.after _ (counted e) same (built_at s bytes h.chunks h.after h.sendings h.builds
          (subst (λ (ys : List ℕ). WritesPacket ys (packet_of (at_moment s.view s.now) h.chunks)) (sym is) h.packet) h.sends),
      h.stands,
    )

-- ---- a message that is sent

-- the call sends this message
abbrev pub IsSendOf : Standing → Call → Message → Type 0
IsSendOf s c m = (a : model.SendAnswer) → send_answer s.view m ≡ a → Performs s c (send_reply a) (record s { view = send_leaves a s.view m })

pub accepted : (s : Standing) (c : Call) (m n : Message) (k : Ticket) (e : Endpoint) → IsSendOf s c m → n ≡ m → SendAnswers s.view n (Ok k)
    → EndpointStands e (sent_view s.view n (Ok k)) → counted e ≡ s.counts → Leaves s c (reply.Ticket k.0) e
accepted s c m n k e sends same answer stands counts = (
  send_leaves (model.Ticket k.0) s.view m,
  counted_as s c (reply.Ticket k.0) _ s.counts (counted e) counts
      (sends (model.Ticket k.0) (subst (λ (x : Message). send_answer s.view x ≡ model.Ticket k.0) same answer)),
  subst (λ (x : Message). EndpointStands e (send_leaves (model.Ticket k.0) s.view x)) same stands,
)

-- what is told changes nothing
told_sent : (s : Standing) (c : Call) (m : Message) (r : Reply) → IsSendOf s c m → may_want c ≡ true → SendTold s.view m r → Performs s c r s
told_sent s c m r sends may (inl (a, is, said, same)) =
    let here = subst (λ (v : EndView). Performs s c (send_reply a) (record s { view = v })) same (sends a is) in
    subst (λ (x : Reply). Performs s c x s) (sym said) here
told_sent s c m r sends may (inr want) = subst (λ (x : Reply). Performs s c x s) (sym want) (WantsMemory c may)

pub refused : (s : Standing) (c : Call) (m n : Message) (r : Reply) (e : Endpoint) → IsSendOf s c m → may_want c ≡ true → n ≡ m → SendTold s.view n r
    → EndpointStands e s.view → counted e ≡ s.counts → Leaves s c r e
refused s c m n r e sends may same told stands counts =
    (s.view, counted_as s c r s.view s.counts (counted e) counts (told_sent s c m r sends may (subst (λ (x : Message). SendTold s.view x r) same told)), stands)

-- a refusal of the sender is the definitions'
pub refuses : (v : EndView) (m : Message) (q : queueing.Refusal) → hears is_established v.phase ≡ true → refusal v.sender m.lane.stream m.bytes ≡ Some q
    → SendTold v m (send_reply (model.Refused q))
refuses v m q heard is = inl (model.Refused q, rw heard (rw is refl), refl, refl)

-- ---- an abort

pub aborted : (s : Standing) (reason shown : List ℕ) (packet : Vec ℕ Global) (bytes : List ℕ) (e : Endpoint) → shown ≡ reason
    → AbortAnswers s.view shown (Ok packet) → bytes ≡ packet.items → EndpointStands e (aborted_view s.view shown (Ok packet))
    → counted e ≡ aborted_counts (Ok packet) s.counts → Leaves s (call.Abort reason) (reply.Answer bytes) e
aborted s reason shown packet bytes e is answer same stands counts =
    let told = subst (λ (ys : List ℕ). AbortAnswers s.view ys (Ok packet)) is answer in
    let left = subst (λ (ys : List ℕ). EndpointStands e (aborted_view s.view ys (Ok packet))) is stands in
    let more : counted e ≡ abort_counts (reply.Answer bytes) s.counts = counts ∙ ap (λ (ys : List ℕ). with_packet (length ys) s.counts) (sym same) in (
      abort_leaves (model.Aborts told.0) s.view,
      counted_as s (call.Abort reason) (reply.Answer bytes) _ _ (counted e) more
          (AbortsIt reason (model.Aborts told.0) (reply.Answer bytes) told.1 (bytes, subst (λ (ys : List ℕ). WritesPacket ys told.0) (sym same) told.2, refl)),
      subst (λ (a : model.AbortAnswer). EndpointStands e (abort_leaves a s.view)) told.1 left,
    )

told_abort : (s : Standing) (reason : List ℕ) (r : Reply) → AbortTold s.view reason r → Performs s (call.Abort reason) r s
told_abort s reason r (inl (a, is, tells, same, uncounted)) =
    subst (λ (v : EndView). Performs s (call.Abort reason) r (record s { view = v })) same
    (counted_as s (call.Abort reason) r _ _ s.counts (sym (uncounted s.counts)) (AbortsIt reason a r is tells))
told_abort s reason r (inr want) = subst (λ (x : Reply). Performs s (call.Abort reason) x s) (sym want) (WantsMemory (call.Abort reason) refl)

pub abort_not : (s : Standing) (reason shown : List ℕ) (r : Reply) (e : Endpoint) → shown ≡ reason → AbortTold s.view shown r
    → EndpointStands e s.view → counted e ≡ s.counts → Leaves s (call.Abort reason) r e
abort_not s reason shown r e is told stands counts = (
  s.view,
  counted_as s (call.Abort reason) r s.view s.counts (counted e) counts
      (told_abort s reason r (subst (λ (ys : List ℕ). AbortTold s.view ys r) is told)),
  stands,
)
