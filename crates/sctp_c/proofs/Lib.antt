mod Apart
mod HandingBack
mod BufferLemmas
mod ChannelLemmas
mod EventLemmas
mod SendLemmas
mod TicketLemmas
