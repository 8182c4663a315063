-- A stream that is ready is asked for by the next packet, or its request is due still.
use Rattle.std.proofs.Common.{◌≡◌, ◌⊎◌, ℕ, Bool, true, false, ◌&&◌, List, [], ◌∷◌, ◌++◌, Some, inl, inr, refl, sym, subst, ap, ◌∙◌}
use Rattle.sctp_model.specs.numbers.Lists.{Has}
use Rattle.sctp_model.specs.wire.Chunk.{ChunkMeaning}
use Rattle.sctp_model.specs.wire.Reconfig.{reconfig_chunk, reset_item}
use Rattle.sctp_model.specs.receiver.ResetTaken.{last_finished}
use Rattle.sctp_model.specs.sender.Outgoing.{Request}
use Rattle.sctp_model.specs.sender.SenderView.{SenderView}
use Rattle.sctp_model.specs.sender.Resetting.{next_request, may_ask, asked, request_said}
use Rattle.sctp_model.specs.end.EndView.{Tags, Established, Phase, Open, Calling, Echoing, ResetAlarm, EndView, format_of, has_association}
use Rattle.sctp_model.specs.end.Clock.{is_home}
use Rattle.sctp_model.specs.end.Reconfiguring.{asking, asking_now}
use Rattle.sctp_model.specs.end.Building.{Slot, EchoSlot, CookieAckSlot, HeartbeatSlot, BeatSlot, ErrorSlot, SackSlot, ForwardSlot, AnswerSlot, RequestSlot, ShutdownSlot, ShutdownAckSlot, open_slots, is_due, Wants, AskReset, once_built, Puts, NoMore, NotDue, Put, IsFull, Builds, Sleeps, Waits, Calls, Echoes, EndsFull, Fills, fragments, room_behind, sent}
use Rattle.sctp_model.proofs.sender.WordLaws.{has_left, has_right}
use Rattle.sctp_outcomes.proofs.resets.AskingEnds.{filled_resets}
use Rattle.sctp_outcomes.specs.Resets.{IsPacketFull, IsSaidOrDue, IsInPacket, IsDueStill, AsksFor, ReadyIsAskedFor}

-- what is in a packet stays in it
puts_keep : (ss : List Slot) (e : EndView) (xs zs : List ChunkMeaning) (full : Bool) (t : EndView) → Puts ss e xs zs full t → (x : ChunkMeaning) → Has xs x → Has zs x
puts_keep ss e xs zs full t (NoMore _ _) x has = has
puts_keep ss e xs zs full t (NotDue _ more _ _ _ _ _ off rest) x has = puts_keep more e xs zs full t rest x has
puts_keep ss e xs zs full t (Put s more _ y _ _ _ _ due wants room rest) x has = puts_keep more (once_built s e) (xs ++ y ∷ []) zs full t rest x (has_left xs (y ∷ []) x has)
puts_keep ss e xs zs full t (IsFull _ _ _ _ _ due wants room) x has = has

-- a chunk that is built leaves the sender
once_sender : (s : Slot) (e : EndView) → (once_built s e).sender ≡ e.sender
once_sender EchoSlot e = refl
once_sender CookieAckSlot e = refl
once_sender HeartbeatSlot e = refl
once_sender BeatSlot e = refl
once_sender ErrorSlot e = refl
once_sender SackSlot e = refl
once_sender ForwardSlot e = refl
once_sender AnswerSlot e = refl
once_sender RequestSlot e = refl
once_sender ShutdownSlot e = refl
once_sender ShutdownAckSlot e = refl

puts_sender : (ss : List Slot) (e : EndView) (xs zs : List ChunkMeaning) (full : Bool) (t : EndView) → Puts ss e xs zs full t → t.sender ≡ e.sender
puts_sender ss e xs zs full t (NoMore _ _) = refl
puts_sender ss e xs zs full t (NotDue _ more _ _ _ _ _ off rest) = puts_sender more e xs zs full t rest
puts_sender ss e xs zs full t (Put s more _ y _ _ _ _ due wants room rest) = puts_sender more (once_built s e) (xs ++ y ∷ []) zs full t rest ∙ once_sender s e
puts_sender ss e xs zs full t (IsFull _ _ _ _ _ due wants room) = refl

-- what a request says of those of the peer
abbrev answered : EndView → ℕ
answered e = last_finished e.receiver

-- what a request says of an endpoint stays so, and is due
record IsAskingAs (o e : EndView) : Type 0 where
  sender : e.sender ≡ o.sender
  answered : answered e ≡ answered o
  due : e.due.request ≡ true

-- a chunk that is built is of a request, or leaves that
once_asks : (s : Slot) (o e : EndView) → IsAskingAs o e → (s ≡ RequestSlot) ⊎ IsAskingAs o (once_built s e)
once_asks EchoSlot o e k = inr (record { sender = k.sender; answered = k.answered; due = k.due })
once_asks CookieAckSlot o e k = inr (record { sender = k.sender; answered = k.answered; due = k.due })
once_asks HeartbeatSlot o e k = inr (record { sender = k.sender; answered = k.answered; due = k.due })
once_asks BeatSlot o e k = inr (record { sender = k.sender; answered = k.answered; due = k.due })
once_asks ErrorSlot o e k = inr (record { sender = k.sender; answered = k.answered; due = k.due })
once_asks SackSlot o e k = inr (record { sender = k.sender; answered = k.answered; due = k.due })
once_asks ForwardSlot o e k = inr (record { sender = k.sender; answered = k.answered; due = k.due })
once_asks AnswerSlot o e k = inr (record { sender = k.sender; answered = k.answered; due = k.due })
once_asks RequestSlot o e k = inl refl
once_asks ShutdownSlot o e k = inr (record { sender = k.sender; answered = k.answered; due = k.due })
once_asks ShutdownAckSlot o e k = inr (record { sender = k.sender; answered = k.answered; due = k.due })

-- the chunk of a request
abbrev asks_with : EndView → Request → ChunkMeaning
asks_with o q = reconfig_chunk (reset_item (answered o) (request_said o.sender q) ∷ [])

module _ (o : EndView) (q : Request) (pending : o.sender.resets.pending ≡ Some q) where
  -- it is in the packet, or due still, if that is full
  abbrev IsSaid : List ChunkMeaning → Bool → EndView → Type 0
  IsSaid zs full t = Has zs (asks_with o q) ⊎ ((full ≡ true) × (IsPacketFull zs t × (t.due.request ≡ true)))

  waits_at : (e : EndView) → IsAskingAs o e → e.sender.resets.pending ≡ Some q
  waits_at e k = subst (λ (v : SenderView). v.resets.pending ≡ Some q) (sym k.sender) pending

  wanted : (e : EndView) (x : ChunkMeaning) → IsAskingAs o e → Wants e RequestSlot x → x ≡ asks_with o q
  wanted e x k (AskReset p is) =
      let one = waits_at e k in
      let same : p ≡ q = cc (one, is) in
      ap (λ (y : Request). reconfig_chunk (reset_item (answered e) (request_said e.sender y) ∷ [])) same
      ∙ ap (λ (v : SenderView). reconfig_chunk (reset_item (answered e) (request_said v q) ∷ [])) k.sender
      ∙ ap (λ (n : ℕ). reconfig_chunk (reset_item n (request_said o.sender q) ∷ [])) k.answered

  put_now : (s : Slot) (more : List Slot) (e : EndView) (x : ChunkMeaning) (xs zs : List ChunkMeaning) (full : Bool) (t : EndView) → s ≡ RequestSlot → IsAskingAs o e → Wants e s x
      → Puts more (once_built s e) (xs ++ x ∷ []) zs full t → IsSaid zs full t
  put_now s more e x xs zs full t same k wants rest =
      inl (subst (Has zs) (wanted e x k (subst (λ (y : Slot). Wants e y x) same wants)) (puts_keep more (once_built s e) (xs ++ x ∷ []) zs full t rest x (has_right xs (x ∷ []) x (inl refl))))

  is_asked : (ss : List Slot) (e : EndView) (xs zs : List ChunkMeaning) (full : Bool) (t : EndView) → Has ss RequestSlot → IsAskingAs o e → Puts ss e xs zs full t → IsSaid zs full t
  is_asked ss e xs zs full t has k (NoMore _ _) = absurd has
  is_asked ss e xs zs full t (inl same) k (NotDue s more _ _ _ _ _ off rest) =
      absurd (let due = k.due in let one = waits_at e k in let on : is_due RequestSlot e ≡ true = rw (due, one) refl in let no : is_due RequestSlot e ≡ false = subst (λ (y : Slot). is_due y e ≡ false) same off in cc (on, no))
  is_asked ss e xs zs full t (inr has) k (NotDue s more _ _ _ _ _ off rest) = is_asked more e xs zs full t has k rest
  is_asked ss e xs zs full t (inl same) k (Put s more _ x _ _ _ _ on wants room rest) = put_now s more e x xs zs full t same k wants rest
  is_asked ss e xs zs full t (inr has) k (Put s more _ x _ _ _ _ on wants room rest) =
      by_slot (once_asks s o e k) (λ kept. is_asked more (once_built s e) (xs ++ x ∷ []) zs full t has kept rest)
    where
      by_slot : (s ≡ RequestSlot) ⊎ IsAskingAs o (once_built s e) → (IsAskingAs o (once_built s e) → IsSaid zs full t) → IsSaid zs full t
      by_slot (inl same) further = put_now s more e x xs zs full t same k wants rest
      by_slot (inr kept) further = further kept
  is_asked ss e xs zs full t has k (IsFull s _ _ x _ on wants room) = inr (refl, (record { slot = s; chunk = x; due = on; wants = wants; room = room }, k.due))

-- the request is one of the places of an open association
is_open_slot : Has open_slots RequestSlot
is_open_slot = inr (inr (inr (inr (inr (inr (inr (inl refl)))))))

-- the request that an endpoint makes
abbrev request_of : EndView → Request
request_of e = next_request e.sender

-- it is made before the packet is built
makes : (e : EndView) (tags : Tags) → e.phase ≡ Open tags Established → e.terms.reset ≡ true → may_ask e.sender ≡ true → asking e ≡ asking_now true e
makes e tags is on may =
    let home : is_home ResetAlarm e.phase ≡ true = subst (λ (h : Phase). is_home ResetAlarm h ≡ true) (sym is) refl in
    let all : (e.terms.reset && (is_home ResetAlarm e.phase && may_ask e.sender)) ≡ true = rw (on, home, may) refl in
    ap (λ (b : Bool). asking_now b e) all

module _ (e : EndView) (tags : Tags) (is : e.phase ≡ Open tags Established) (on : e.terms.reset ≡ true) (may : may_ask e.sender ≡ true) where
  -- the endpoint that asks
  abbrev asker : EndView
  asker = asking_now true e

  is_said : (zs : List ChunkMeaning) (full : Bool) (x : EndView) → Puts open_slots asker [] zs full x → IsSaid asker (request_of e) refl zs full x
  is_said zs full x puts = is_asked asker (request_of e) refl open_slots asker [] zs full x is_open_slot (record { sender = refl; answered = refl; due = refl }) puts

  by_asker : (zs : List ChunkMeaning) (full : Bool) (x : EndView) → Puts open_slots (asking e) [] zs full x → Puts open_slots asker [] zs full x
  by_asker zs full x puts = subst (λ (o : EndView). Puts open_slots o [] zs full x) (makes e tags is on may) puts

  said_or_due : (zs : List ChunkMeaning) (full : Bool) (t : EndView) → IsSaid asker (request_of e) refl zs full t → IsSaidOrDue e (request_of e) zs t
  said_or_due zs full t (inl has) = IsInPacket has
  said_or_due zs full t (inr (all, (filled, due))) = IsDueStill filled due

  said_behind : (zs ys : List ChunkMeaning) (x t : EndView) → IsSaid asker (request_of e) refl zs false x → IsSaidOrDue e (request_of e) (zs ++ ys) t
  said_behind zs ys x t (inl has) = IsInPacket (has_left zs ys _ has)
  said_behind zs ys x t (inr (all, other)) = absurd (cc (all))

  asks_for : (zs : List ChunkMeaning) (t : EndView) → t.sender.resets ≡ (asked e.sender).resets → IsSaidOrDue e (request_of e) zs t → AsksFor e (request_of e) zs t
  asks_for zs t same said = record { streams = refl; last = refl; made = refl; outstanding = same; said = said }

  asks : (xs : List ChunkMeaning) (t : EndView) → Builds e xs t → AsksFor e (request_of e) xs t
  asks xs t (Sleeps off) = absurd (let no : has_association e.phase ≡ true = subst (λ (h : Phase). has_association h ≡ true) (sym is) refl in cc (off, no))
  asks xs t (Waits d at off) = absurd (let no : Calling d ≡ Open tags Established = sym at ∙ is in cc)
  asks xs t (Calls d at due) = absurd (let no : Calling d ≡ Open tags Established = sym at ∙ is in cc)
  asks xs t (Echoes u cookie _ full _ at puts) = absurd (let no : Echoing u cookie ≡ Open tags Established = sym at ∙ is in cc)
  asks xs t (EndsFull u g _ _ at puts) =
      let all = by_asker xs true t puts in asks_for xs t (ap (λ (v : SenderView). v.resets) (puts_sender open_slots asker [] xs true t all)) (said_or_due xs true t (is_said xs true t all))
  asks xs t (Fills u g zs x at puts) =
      let all = by_asker zs false x puts in
      asks_for (zs ++ fragments x zs) (sent x zs)
      (filled_resets (format_of x) (room_behind x zs) x.sender ∙ ap (λ (v : SenderView). v.resets) (puts_sender open_slots asker [] zs false x all))
      (said_behind zs (fragments x zs) x (sent x zs) (is_said zs false x all))

pub ready_is_asked_for : ReadyIsAskedFor
ready_is_asked_for e tags xs t is on may builds = (request_of e, asks e tags is on may xs t builds)
