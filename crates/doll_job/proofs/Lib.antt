mod Begun
mod Facts
mod Jobs
mod Leads
